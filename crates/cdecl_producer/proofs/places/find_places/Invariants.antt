use Rattle.std.proofs.Common.{◌≡◌, ℕ, List, map, drop}
use Rattle.std.specs.List.{position_from}
use Rattle.std.specs.Map.{lookup}
use Rattle.std.specs.Str.{bytes_eq}
use Rattle.cdecl_producer.specs.Files.{listed}
use Rattle.cdecl_producer.proofs.places.find_places.Given as goal

-- the files from here on are there
abbrev pub invariant-loop-at : goal.invariant-loop-at
invariant-loop-at l = (name : List ℕ) → lookup (bytes_eq name) (listed l.places.entries) ≡ position_from (bytes_eq name) l.at (map (λ f. f.name) (drop l.at l.files))
