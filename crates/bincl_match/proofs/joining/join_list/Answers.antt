use Rattle.std.proofs.Common.{◌≡◌, ◌^◌, ◌∙◌, [], length, ap, arith, Some, None, Err}
use Rattle.unit_outlines.specs.declared.outline_types.Marks.TheVariants.{Object}
use Rattle.bincl_match.proofs.FoundLemmas.{numbers_count, placed_are, placed_few}
use Rattle.bincl_match.proofs.LawLemmas.{lawful, ranges_are, told_few}
use Rattle.bincl_match.proofs.SpanLemmas.{few_spans}
use Rattle.bincl_match.proofs.joining.join_list.Goals as goal

-- no more units than entries
pub all_numbers-requires : goal.all_numbers-requires
all_numbers-requires c =
    let e = ap length (c.items.ensures ∙ c.in-Ok.ensures.found.1) in
    let f = few_spans c.args.text_end [] 0 c.args.entries.now in omega (arith, c.requires.few)

-- a number for each range
pub all_changed-requires : goal.all_changed-requires
all_changed-requires c =
    ap length c.items-in-Ok.ensures
    ∙ numbers_count c.args.text_end c.args.entries.now c.args.found c.items.result.now c.in_ok-numbers-in-Ok.numbers c.requires.found (c.items.ensures ∙ c.in-Ok.ensures.found.1) c.in_ok-numbers-in-Ok.ensures

-- no more ranges than entries
pub told-requires : goal.told-requires
told-requires c =
    placed_few c.args.text_end (2 ^ 32) c.args.entries.now c.args.found c.in_ok-placed-in-Ok.placed c.items-in-Ok.result.now c.requires.found c.in_ok-placed-in-Ok.ensures c.requires.few

-- what was known, with its units, and told
pub returns-in_ok-ranges-in-Ok-clause-ranges : goal.returns-in_ok-ranges-in-Ok-clause-ranges
returns-in_ok-ranges-in-Ok-clause-ranges c =
    ranges_are c.args.text_end c.args.entries.now c.in_ok-placed-in-Ok.placed c.in_ok-ranges-in-Ok.ranges
    (placed_are c.args.text_end c.args.entries.now c.args.found c.in_ok-placed-in-Ok.placed c.items.result.now c.in_ok-numbers-in-Ok.numbers c.items-in-Ok.result.now c.requires.found
    (c.items.ensures ∙ c.in-Ok.ensures.found.1) c.in_ok-numbers-in-Ok.ensures c.items-in-Ok.ensures c.in_ok-placed-in-Ok.ensures)
    c.in_ok-ranges-in-Ok.ensures

-- the ranges of entries are lawful
pub returns-in_ok-ranges-in-Ok-clause-lawful : goal.returns-in_ok-ranges-in-Ok-clause-lawful
returns-in_ok-ranges-in-Ok-clause-lawful c = lawful c.args.text_end c.args.entries.now c.in_ok-ranges-in-Ok.ranges (returns-in_ok-ranges-in-Ok-clause-ranges c)

-- and no more than entries
pub returns-in_ok-ranges-in-Ok-clause-few : goal.returns-in_ok-ranges-in-Ok-clause-few
returns-in_ok-ranges-in-Ok-clause-few c =
    told_few (2 ^ 32) c.in_ok-placed-in-Ok.placed c.in_ok-ranges-in-Ok.ranges
    (placed_few c.args.text_end (2 ^ 32) c.args.entries.now c.args.found c.in_ok-placed-in-Ok.placed c.items-in-Ok.result.now c.requires.found c.in_ok-placed-in-Ok.ensures c.requires.few)
    c.in_ok-ranges-in-Ok.ensures

-- entries of which ranges are known have no fault
pub unreachable-requires : goal.unreachable-requires
unreachable-requires c =
    let clash : None ≡ Some c.in-Err-At.field-0-0 =
    c.one_outline.ensures.one Object c.args.entries.now None (Some c.in-Err-At.field-0-0) c.requires.found.1.are_units.no_fault
    (c.in-Err-At.ensures.refused c.in-Err-At.field-0-0 (ap Err c.in-Err-At.field-0-is))
    in
    absurd cc
