use Rattle.std.proofs.Common.{List, refl, sym, subst}
use Rattle.nlist_codec.specs.declared.named.Named.{Named}
use Rattle.aout_link.specs.Sources.{Source}
use Rattle.aout_link.specs.Linking.{IsPlanned, KeepsWorld, image_end}
use Rattle.aout_link.proofs.linking.link.Goals as goal

-- the entries of the image are those of the plan, merged
pub returns-in-Ok-make_merged-clause-links : goal.returns-in-Ok-make_merged-clause-links
returns-in-Ok-make_merged-clause-links g c =
    let placed = c.in-Ok.plan.placed in
    let made = c.in-Ok-make_merged.ensures in
    record {
      placed = placed;
      grouping = c.in-Ok.plan.grouping;
      planned = subst (λ (objects : List Source). IsPlanned c.args.mode c.args.base objects placed c.in-Ok.plan.grouping) c.items.ensures c.in-Ok.ensures.planned;
      fits = made.0;
      is = made.1;
      world = subst (λ (es : List Named). KeepsWorld (image_end placed) placed.named es) (sym made.1.named) c.in-Ok.ensures.world;
      taken = refl;
    }
