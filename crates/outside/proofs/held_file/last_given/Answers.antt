use Rattle.std.proofs.Common.{◌≡◌, sym, ◌∙◌, ap, List, ℕ, Bool, true, false}
use Rattle.std.specs.Prelude.{nat_eq}
use Rattle.std.specs.Ordering.{nat_cmp}
use Rattle.std.specs.Option.{option_copied}
use Rattle.std.specs.Cmp.Lexicographic.{slice_cmp, pointwise}
use Rattle.std.specs.FinMap.{get-empty}
use Rattle.outside.proofs.HeldLemmas.{found-more}
use Rattle.outside.proofs.held_file.last_given.Goals.{then-eq, else-eq}
use Rattle.outside.proofs.held_file.last_given.Goals as goal

pub loop-file-init : goal.loop-file-init
loop-file-init c = sym (get-empty (slice_cmp nat_cmp) c.args.name.now)

-- in either case of the test, by what the contents answer after one more file
pub loop-file-preserved : goal.loop-file-preserved
loop-file-preserved c =
    let test : c.eq.result ≡ pointwise nat_eq c.args.name.now c.file-item.result.name = c.eq.ensures ∙ ap (λ (t : List ℕ). pointwise nat_eq c.args.name.now t) c.bytes.ensures in
    let lemma = λ (same : Bool). found-more c.args.files.now c.loop-file.file-index c.file-item.result c.args.name.now c.loop-file-test.true c.file-item.is same (option_copied c.if-eq.found) (option_copied c.loop-file.found) in
    elim c.if-eq.branch [
      | then-eq w ↦ lemma true (sym w.if-eq.true ∙ test) c.loop-file.invariant (ap option_copied w.found-is)
      | else-eq w ↦ lemma false (sym w.if-eq.false ∙ test) c.loop-file.invariant (ap option_copied w.found-is)
    ]
