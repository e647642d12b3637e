use Rattle.std.proofs.Common.{◌≡◌, ℕ, List, nat_eq, sym}
use Rattle.std.specs.Cmp.Lexicographic.{pointwise}
use Rattle.std.specs.HashMap.{hash_map_len}
use Rattle.std.proofs.lemmas.Map.Text.{hash_map_updates_str}
use Rattle.std.proofs.lemmas.Slice.Eq.{bytes_eq-Decides}
use Rattle.bincl_match.specs.Crowding.{look, or_new}
use Rattle.bincl_match.proofs.FirstsLemmas.{noted_more, same_test, old_none}
use Rattle.bincl_match.proofs.KeyLemmas.{numbering_more, grows_more, len_new}
use Rattle.bincl_match.proofs.groups.number_of.Goals as goal

news : (c : goal.In_ok-insert) → (q : List ℕ) → look c.insert.new.self q ≡ or_new (look c.args.seen.now q) (pointwise nat_eq q c.args.text.now) c.len-next.result
news c q =
    noted_more (look c.args.seen.now q) (pointwise nat_eq c.args.text.now q) (look c.insert.new.self q) (pointwise nat_eq q c.args.text.now) c.len-next.result
    (hash_map_updates_str c.args.text.now c.args.seen.now c.insert.new.self _ c.in_ok-insert.ensures.updates q)
    (old_none (λ (k : List ℕ). look c.args.seen.now k) c.args.text.now q (sym (c.in_default.ensures.value)))
    (same_test c.args.text.now q)

pub returns-clause-numbering : goal.returns-clause-numbering
returns-clause-numbering c =
    numbering_more (λ t. look c.args.seen.now t) (λ t. look c.insert.new.self t) (λ t. pointwise nat_eq t c.args.text.now) (hash_map_len c.args.seen.now) (hash_map_len c.insert.new.self) c.len-next.result c.args.text.now
    c.requires c.len-next.ensures.len (len_new _ _ _ _ c.in_ok-insert.ensures.old (sym c.in_default.ensures.value) c.in_ok-insert.ensures.len)
    (λ t. (bytes_eq-Decides t c.args.text.now).0) (news c)

pub returns-clause-grows : goal.returns-clause-grows
returns-clause-grows c = grows_more (λ t. look c.args.seen.now t) (λ t. look c.insert.new.self t) (λ t. pointwise nat_eq t c.args.text.now) c.len-next.result (news c)
