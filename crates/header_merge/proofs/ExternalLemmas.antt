-- The externals of a changed list are those of the list: only stabs change.
use Rattle.std.proofs.Common.{◌≡◌, ℕ, Bool, true, false, cond, List, [], ◌∷◌, ◌++◌, refl, sym, ap, ◌∙◌, map, eqb-true}
use Rattle.std.specs.Prelude.{◌==◌, ◌&&◌, ◌||◌, filter}
use Rattle.std.proofs.lemmas.Bool.{true≢false}
use Rattle.st_base.specs.Stabs.{is_stab}
use Rattle.stab_codes.specs.declared.code.TheConstants.{N_BINCL, N_EXCL}
use Rattle.nlist_codec.specs.Kinds.{defines_name}
use Rattle.nlist_codec.specs.declared.kinds.TheConstants.{ABSOLUTE_EXTERNAL, TEXT_EXTERNAL, DATA_EXTERNAL, BSS_EXTERNAL}
use Rattle.nlist_codec.specs.declared.named.Named.{Named}
use Rattle.unit_outlines.specs.Marks.{is_header, all_headers, range_in}
use Rattle.stab_units.specs.Changing.{Change, changed, changed_from, is_kept_in, mark_changed}
use Rattle.type_graph.specs.Worlds.{external_of, externals_of, is_external}

-- the kind of a stab is another one
other_kind : (k n : ℕ) → is_stab k ≡ true → is_stab n ≡ false → (k == n) ≡ false
other_kind k n stab none = by_case (k == n) refl where
  by_case : (b : Bool) → (k == n) ≡ b → (k == n) ≡ false
  by_case true is = let same : is_stab k ≡ is_stab n = ap is_stab (eqb-true k n is) in absurd cc
  by_case false is = is

-- a stab is no external
stab_none : (k : ℕ) → is_stab k ≡ true → defines_name k ≡ false
stab_none k stab =
    rw (other_kind k ABSOLUTE_EXTERNAL stab refl, other_kind k TEXT_EXTERNAL stab refl, other_kind k DATA_EXTERNAL stab refl, other_kind k BSS_EXTERNAL stab refl) refl

-- nor is the mark of a header
header_none : (a b : Bool) (k : ℕ) → (k == N_BINCL) ≡ a → (k == N_EXCL) ≡ b → (a || b) ≡ true → defines_name k ≡ false
header_none true b k first second header = ap defines_name (eqb-true k N_BINCL first)
header_none false true k first second header = ap defines_name (eqb-true k N_EXCL second)
header_none false false k first second header = absurd cc

-- or a changed one
mark_none : (b : Bool) → defines_name (cond b N_BINCL N_EXCL) ≡ false
mark_none true = refl
mark_none false = refl

-- an entry that is none is left out
skipped : (b : Bool) (e : Named) (rest : List Named) → b ≡ false → cond b (e ∷ rest) rest ≡ rest
skipped true e rest none = absurd (true≢false none)
skipped false e rest none = refl

-- an entry that goes or is changed is no external
at_entry : (h s k : Bool) (e m : Named) (rest : List Named) → is_external m ≡ false → (h ≡ true → is_external e ≡ false) → (s ≡ true → is_external e ≡ false)
    → filter is_external (cond h (m ∷ []) (cond s (cond k (e ∷ []) []) (e ∷ [])) ++ rest) ≡ cond (is_external e) (e ∷ filter is_external rest) (filter is_external rest)
at_entry true s k e m rest mark header stab = skipped (is_external m) m (filter is_external rest) mark ∙ sym (skipped (is_external e) e (filter is_external rest) (header refl))
at_entry false true true e m rest mark header stab = refl
at_entry false true false e m rest mark header stab = sym (skipped (is_external e) e (filter is_external rest) (stab refl))
at_entry false false k e m rest mark header stab = refl

same_from : (c : Change) (back es : List Named) → filter is_external (changed_from c back es) ≡ filter is_external es
same_from c back [] = refl
same_from c back (e ∷ es) =
    at_entry (is_header e.kind) (is_stab e.kind) (is_kept_in c (range_in back 0)) e (mark_changed c (all_headers back) e) (changed_from c (e ∷ back) es)
    (mark_none ((e.kind == N_BINCL) && c.kept (all_headers back)))
    (header_none (e.kind == N_BINCL) (e.kind == N_EXCL) e.kind refl refl)
    (stab_none e.kind)
    ∙ ap (λ z. cond (is_external e) (e ∷ z) z) (same_from c (e ∷ back) es)

-- only stabs change
pub same_externals : (c : Change) (entries : List Named) → externals_of (changed c entries) ≡ externals_of entries
same_externals c entries = ap (map external_of) (same_from c [] entries)
