use Rattle.file_commands.proofs.ask.ask_sources.Given as goal

-- the counter is made of the blank token
abbrev pub ghosts-ask_counted : goal.ghosts-ask_counted
ghosts-ask_counted a = record { name = a.blank.name; parts = a.blank.parts }
