use Rattle.std.proofs.Common.{◌∙◌, ap, List}
use Rattle.std.specs.Prelude.{Ok, Err}
use Rattle.aout_link.specs.Answering.{listed}
use Rattle.aout_link.specs.Placing.{placed_all}
use Rattle.aout_link.specs.declared.moves.Moves.{Moves}
use Rattle.aout_link.proofs.PlacedLemmas.{as_many, room_for, relocs_refused, all_placed, end_known, lent_segments}
use Rattle.aout_link.proofs.placed.place_alike.Goals as goal

pub place_all-requires : goal.place_all-requires
place_all-requires c = as_many c.items-2.result.now c.args.base c.args.objects.now (c.items-2.ensures ∙ c.in_ok-moves.ensures)

pub place_segments-requires-clause-moves : goal.place_segments-requires-clause-moves
place_segments-requires-clause-moves c = as_many c.items-3.result.now c.args.base c.args.objects.now (c.items-3.ensures ∙ c.in_ok-moves.ensures)

pub place_segments-requires-clause-placed : goal.place_segments-requires-clause-placed
place_segments-requires-clause-placed c =
    room_for (listed c.in-Ok.found.0.entries) c.items-2.result.now c.args.objects.now c.in-Ok-place_all.named c.items-4.result.now c.items-4.ensures c.in-Ok-place_all.ensures.1
    (as_many c.items-2.result.now c.args.base c.args.objects.now (c.items-2.ensures ∙ c.in_ok-moves.ensures))

pub returns-in-Err-place_segments : goal.returns-in-Err-place_segments
returns-in-Err-place_segments c =
    let known = end_known c.args.base c.args.objects.now c.sum_sizes-totals.result c.in-Ok.found.1 c.in-Ok-check_end.bss c.sum_sizes-totals.ensures.value c.in-Ok.ensures.found.2 c.in-Ok-check_end.ensures in
    let named = c.in-Ok-place_all.ensures.1 ∙ ap (λ (m : List Moves). placed_all (listed c.in-Ok.found.0.entries) m c.args.objects.now) c.items-2.ensures in
    relocs_refused c.args.base c.args.objects.now c.in_ok-moves.moves (listed c.in-Ok.found.0.entries) c.in-Ok-place_all.named c.in_ok-moves.ensures c.in-Ok.ensures.found.1 named
    c.in-Err-place_segments.why c.in-Ok.ensures.found.0 c.in-Ok-place_all.ensures.0 known.0
    (lent_segments c.args.objects.now c.in-Ok-place_all.named c.items-4.result.now c.in_ok-moves.moves c.items-3.result.now (Err c.in-Err-place_segments.why) c.items-4.ensures c.items-3.ensures c.in-Err-place_segments.ensures)

pub returns : goal.returns
returns c =
    let known = end_known c.args.base c.args.objects.now c.sum_sizes-totals.result c.in-Ok.found.1 c.in-Ok-check_end.bss c.sum_sizes-totals.ensures.value c.in-Ok.ensures.found.2 c.in-Ok-check_end.ensures in
    let named = c.in-Ok-place_all.ensures.1 ∙ ap (λ (m : List Moves). placed_all (listed c.in-Ok.found.0.entries) m c.args.objects.now) c.items-2.ensures in
    all_placed c.args.base c.args.objects.now c.in_ok-moves.moves (listed c.in-Ok.found.0.entries) c.in-Ok-place_all.named c.in_ok-moves.ensures c.in-Ok.ensures.found.1 named
    c.args.first.now c.parts-parts.result.now c.in-Ok-place_segments.segments c.in-Ok-check_end.bss c.requires.first c.parts-parts.ensures.value c.in-Ok.ensures.found.0 c.in-Ok-place_all.ensures.0 known.0
    (lent_segments c.args.objects.now c.in-Ok-place_all.named c.items-4.result.now c.in_ok-moves.moves c.items-3.result.now (Ok c.in-Ok-place_segments.segments) c.items-4.ensures c.items-3.ensures c.in-Ok-place_segments.ensures) known.1
