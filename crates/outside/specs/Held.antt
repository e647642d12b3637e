-- What a list of names and contents holds: files in memory keep each content that a name was given.
use Rattle.std.specs.Prelude.{List, fold}
use Rattle.std.specs.FinMap.{insert, empty}
use Rattle.outside.specs.Causes.{Contents}
use Rattle.outside.specs.declared.held_file.HeldFile.{HeldFile}

-- the contents after these were given one after another: of a name that stands twice, the last
abbrev pub contents_of : List HeldFile → Contents
contents_of files = fold (λ held file. insert held file.name file.bytes) empty files
