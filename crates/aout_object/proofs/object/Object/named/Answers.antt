-- Each name is one that the string table has.
use Rattle.std.proofs.Common.{◌≡◌, List, subst, sym}
use Rattle.std.specs.Prelude.{All}
use Rattle.std.proofs.lemmas.Result.{IfOk-weaker}
use Rattle.nlist_codec.specs.declared.named.Named.{Named}
use Rattle.aout_object.specs.Objects.{all_named}
use Rattle.aout_object.specs.Making.{HasWholeName}
use Rattle.aout_object.proofs.NameLemmas.{names-whole}
use Rattle.aout_object.proofs.object.Object.named.Goals as goal

pub returns-clause-whole : goal.returns-clause-whole
returns-clause-whole c =
    let strings = c.bytes.result.now in
    let entries = c.items.result.now in
    IfOk-weaker c.named_entries.result (λ named. named ≡ all_named strings entries) (λ named. All HasWholeName named)
    (λ named is. subst (λ (x : List Named). All HasWholeName x) (sym is) (names-whole strings entries)) c.named_entries.ensures
