use Rattle.std.proofs.Common.{ℕ, List, nat_eq, sym}
use Rattle.std.specs.Cmp.Lexicographic.{pointwise}
use Rattle.std.proofs.lemmas.Map.Text.{hash_map_updates_str}
use Rattle.bincl_match.specs.Crowding.{look}
use Rattle.bincl_match.proofs.FirstsLemmas.{noted_more, same_test, old_none}
use Rattle.bincl_match.proofs.groups.first_seen.Goals as goal

pub returns-clause-noted : goal.returns-clause-noted
returns-clause-noted c = λ q.
    noted_more (look c.args.seen.now q) (pointwise nat_eq c.args.key.now q) (look c.insert.new.self q) (pointwise nat_eq q c.args.key.now) c.args.at
    (hash_map_updates_str c.args.key.now c.args.seen.now c.insert.new.self _ c.in_ok-insert.ensures.updates q)
    (old_none (λ (k : List ℕ). look c.args.seen.now k) c.args.key.now q (sym (c.in_default.ensures.value)))
    (same_test c.args.key.now q)
