-- Merging headers keeps what holds of each entry and of its mark, so names and accepted kinds: what can be made into an object still can.
use Rattle.std.proofs.Common.{◌≡◌, Bool, true, false, cond, List, [], ◌∷◌, refl, sym, ap, subst, ◌∙◌}
use Rattle.std.specs.Prelude.{ℕ, ◌&&◌, ◌==◌, Err}
use Rattle.std.specs.List.{AllByRecursion}
use Rattle.st_base.specs.Stabs.{is_stab}
use Rattle.st_base.specs.declared.fault.Refused.{Refused}
use Rattle.st_base.specs.declared.fault.Refused.TheVariants as refused
use Rattle.stab_codes.specs.declared.code.TheConstants.{N_BINCL, N_EXCL}
use Rattle.nlist_codec.specs.declared.named.Named.{Named}
use Rattle.aout_object.specs.Decoding.{Answers}
use Rattle.aout_object.specs.Making.{HasWholeName}
use Rattle.aout_object.specs.Objects.{Contents}
use Rattle.stab_units.specs.Changing.{Change, changed_at, changed_from, is_kept_in, mark_changed}
use Rattle.unit_outlines.specs.Marks.{is_header, all_headers, range_in}
use Rattle.bincl_match.specs.declared.range.Grouping.{Grouping}
use Rattle.header_merge.specs.Merged.{change_of}
use Rattle.header_merge.proofs.FrontLemmas.{all_append}
use Rattle.aout_link.specs.Sources.{HasAcceptedKind}
use Rattle.aout_link.specs.ImageMaking.{CanBeMade, size_fault}
use Rattle.aout_link.specs.Refusals.{Refuses}
use Rattle.aout_link.specs.Linking.{image_placed}
use Rattle.aout_link.specs.declared.placed.Placed.{Placed}

-- what holds of an entry and of its mark holds of what entries become
module _ (P : Named → Type 0) (c : Change) (marks : (place : ℕ) (e : Named) → P e → P (mark_changed c place e)) where
  -- of what one entry becomes
  one_changed : (back : List Named) (e : Named) → P e → AllByRecursion P (changed_at c back e)
  one_changed back e h = by (is_header e.kind) (is_stab e.kind) (is_kept_in c (range_in back 0))
    where
      by : (header stab kept : Bool) → AllByRecursion P (cond header (mark_changed c (all_headers back) e ∷ []) (cond stab (cond kept (e ∷ []) []) (e ∷ [])))
      by true stab kept = (marks (all_headers back) e h, tt)
      by false true true = (h, tt)
      by false true false = tt
      by false false kept = (h, tt)

  -- and of what all become
  pub all_changed : (back es : List Named) → AllByRecursion P es → AllByRecursion P (changed_from c back es)
  all_changed back [] h = tt
  all_changed back (e ∷ es) h = all_append P (changed_at c back e) (changed_from c (e ∷ back) es) (one_changed back e h.0) (all_changed (e ∷ back) es h.1)

-- the mark of a header has an accepted kind
mark_accepted : (c : Change) (place : ℕ) (e : Named) → HasAcceptedKind e → HasAcceptedKind (mark_changed c place e)
mark_accepted c place e h = by ((e.kind == N_BINCL) && c.kept place)
  where
    by : (stays : Bool) → HasAcceptedKind (record e { kind = cond stays N_BINCL N_EXCL; value = c.value place })
    by true = refl
    by false = refl

-- what can be made into an object still can
pub can_merged : (g : Grouping) (p : Placed) → CanBeMade p → CanBeMade (image_placed g p)
can_merged g p can = record {
  names = all_changed HasWholeName (change_of g) (λ place e h. h) [] p.named can.names;
  kinds = all_changed HasAcceptedKind (change_of g) (mark_accepted (change_of g)) [] p.named can.kinds;
  addresses = can.addresses;
  machine = can.machine;
}

-- so can what is that
pub can_be_merged : (g : Grouping) (p image : Placed) → image ≡ image_placed g p → CanBeMade p → CanBeMade image
can_be_merged g p image is can = subst CanBeMade (sym is) (can_merged g p can)

-- a refusal of it is for the size of the image
pub refused_merged : (g : Grouping) (p image : Placed) (value : Contents) (why : Refused) → image ≡ image_placed g p → Answers (Err why) (size_fault image) value
    → Refuses (size_fault (image_placed g p)) why
refused_merged g p image value refused.Memory is answers = tt
refused_merged g p image value (refused.At fault) is answers = sym (ap size_fault is) ∙ answers
