use Rattle.std.proofs.Common.{◌≡◌, ◌++◌, ◌∷◌, map, drop}
use Rattle.cdecl_producer.specs.declared.source.Progress.TheVariants.{Unread, Open}
use Rattle.cdecl_producer.proofs.reading.first_progress.Given as goal

-- what is noted, and the headers that are left, make them all
abbrev pub invariant-loop : goal.invariant-loop
invariant-loop l = l.progress ++ map (λ f. Unread) (drop l.index l.headers) ≡ Open ∷ map (λ f. Unread) l.headers
