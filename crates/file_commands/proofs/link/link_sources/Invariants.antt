use Rattle.file_commands.proofs.link.link_sources.Given as goal

-- the counter is made of the blank token
abbrev pub ghosts-link_counted : goal.ghosts-link_counted
ghosts-link_counted a = record { name = a.blank.name; parts = a.blank.parts }
