use Rattle.file_commands.proofs.reading.expand_entries.Given as goal

-- the counter is made of the blank token
abbrev pub ghosts-expand_counted : goal.ghosts-expand_counted
ghosts-expand_counted a = record { name = a.blank.name; parts = a.blank.parts }
