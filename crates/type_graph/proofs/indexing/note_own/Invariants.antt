use Rattle.std.proofs.Common.{◌≡◌, drop}
use Rattle.std.specs.Prelude.{◌||◌, not}
use Rattle.stab_symbols.specs.declared.tree.Key.{Key}
use Rattle.type_graph.specs.TypeMaps.{body_in, own_only}
use Rattle.type_graph.proofs.IndexLemmas.{known_from_own}
use Rattle.type_graph.proofs.indexing.note_own.Given as goal

-- of the files so far, those are noted that stand in the own file of their key, and it is known whether one of them strays
abbrev pub invariant-loop-number : goal.invariant-loop-number
invariant-loop-number l =
    ((key : Key) → body_in l.noting.bodies key ≡ known_from_own l.files l.number key (body_in l.initial.noting.bodies key))
    × ((l.noting.strays || not (own_only l.number (drop l.number l.files))) ≡ (l.initial.noting.strays || not (own_only 0 l.files)))
