use Rattle.std.proofs.Common.{◌≡◌, take}
use Rattle.std.specs.Option.{option_copied}
use Rattle.std.specs.FinMap.{get}
use Rattle.outside.specs.Held.{contents_of}
use Rattle.outside.proofs.held_file.last_given.Given as goal

-- what was found is the content among the files that were seen
abbrev pub invariant-loop-file : goal.invariant-loop-file
invariant-loop-file l = option_copied l.found ≡ get (contents_of (take l.file-index l.files)) l.name
