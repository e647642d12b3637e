-- One more name is added, and the entry gets the offset that the name has in the end.
use Rattle.std.proofs.Common.{◌<◌, length, arith}
use Rattle.std.proofs.lemmas.List.Elements.{All-push}
use Rattle.std.proofs.lemmas.Result.{err_from_is_err_and}
use Rattle.nlist_codec.specs.Entries.{EntryFits}
use Rattle.aout_object.proofs.MakeLemmas.{names-step, entries-step, size-step, RefusesSize-more}
use Rattle.aout_object.proofs.make.add_entries.Goals as goal

pub loop-entry-preserved : goal.loop-entry-preserved
loop-entry-preserved c =
    let named = c.args.named.now in
    let i = c.loop-entry.entry-index in
    let item = c.entry-item.result in
    let within : i < length named = omega arith in
    let names = names-step named i item within c.entry-item.is c.loop-entry.builder c.add.new.self c.bytes.result.now c.bytes.ensures c.loop-entry.invariant.names c.in_ok-strx.ensures.names in
    record {
      names = names;
      entries = entries-step named i item within c.entry-item.is c.add.new.self c.bytes.result.now c.in_ok-strx.strx c.entry_for.result c.loop-entry.entries c.push.new.self
          c.bytes.ensures names c.in_ok-strx.ensures.strx c.entry_for.ensures.value c.loop-entry.invariant.entries c.in_ok-push.ensures.ok;
      fits = rw c.in_ok-push.ensures.ok (All-push EntryFits c.loop-entry.entries c.entry_for.result c.loop-entry.invariant.fits c.entry_for.ensures.fits);
    }

pub returns-in_err-strx-clause-refused : goal.returns-in_err-strx-clause-refused
returns-in_err-strx-clause-refused c =
    let named = c.args.named.now in
    let i = c.loop-entry.entry-index in
    let item = c.entry-item.result in
    let within : i < length named = omega arith in
    let size = size-step named i item within c.entry-item.is c.loop-entry.builder c.bytes.result.now c.bytes.ensures c.loop-entry.invariant.names in
    let p = err_from_is_err_and c.from_residual.result c.from_residual.ensures.1 in
    rw (p.1, p.2) (RefusesSize-more _ _ _ size c.in_err-strx.ensures.refused)
