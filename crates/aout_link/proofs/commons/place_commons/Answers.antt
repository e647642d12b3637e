use Rattle.std.proofs.Common.{◌≡◌, ◌∙◌, sym, ap, arith, Some}
use Rattle.std.specs.Prelude.{slice_get}
use Rattle.std.specs.Option.{option_map}
use Rattle.aout_link.specs.Answering.{listed}
use Rattle.aout_link.proofs.CommonPlaces.{item_listed, common_placed, total_more}
use Rattle.aout_link.proofs.commons.place_commons.Goals as goal

pub loop-at-preserved : goal.loop-at-preserved
loop-at-preserved c =
    let name = c.unwrap.result.0.now in
    let size = c.unwrap.result.1.now in
    let sizes = listed c.args.sizes.now.entries in
    let is : slice_get c.args.sizes.now.entries c.loop-at.at ≡ Some (name, size) = sym c.get_index.ensures.entry ∙ ap (option_map (λ p. (p.0.now, p.1.now))) c.unwrap.ensures in
    let here = item_listed c.args.sizes.now.entries c.loop-at.at name size is in
    record {
      table = common_placed (listed c.args.table.now.entries) sizes c.args.start c.loop-at.at name.now size (listed c.loop-at.table.entries) (listed c.define.new.table.entries) c.loop-at.total c.low.result _
          here c.requires.new c.loop-at.invariant.table c.loop-at.invariant.total c.low.ensures c.in_ok-define.ensures.fresh c.in_ok-define.ensures.noted;
      total = total_more sizes c.loop-at.at name.now size c.loop-at.total c.padded.result here c.loop-at.invariant.total c.padded.ensures.value;
      low = let h = c.padded.ensures.small in omega arith;
    }
