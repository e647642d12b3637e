use Rattle.file_commands.proofs.objects.check_objects.Given as goal

-- the counter is made of the blank token
abbrev pub ghosts-check_counted : goal.ghosts-check_counted
ghosts-check_counted a = record { name = a.blank.name; parts = a.blank.parts }
