use Rattle.std.proofs.Common.{arith, ap, ◌∙◌, ◌≡◌, ◌+◌, ◌*◌, drop, take, ℕ}
use Rattle.file_commands.proofs.DumpLemmas.{rows_step}
use Rattle.file_commands.proofs.dump.put_rows.Goals as goal

pub loop-row-preserved : goal.loop-row-preserved
loop-row-preserved c =
    let swap : c.loop-row.row * 16 ≡ 16 * c.loop-row.row = omega arith in
    rows_step c.loop-row.out c.put_row.new.out _ c.row_at.result.now c.loop-row.row c.div_ceil-row-end.result c.args.address (c.args.address + c.loop-row.row * 16) c.args.bytes.now
    c.loop-row-test.true c.loop-row.invariant c.in_ok-put_row.ensures (omega arith)
    (c.row_at.ensures ∙ ap (λ (n : ℕ). take 16 (drop n c.args.bytes.now)) swap)
