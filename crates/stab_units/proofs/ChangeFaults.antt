-- No fault of an outline is reported for a changed list where none is for the list, and no bracket of a block goes.
use Rattle.std.proofs.Common.{◌≡◌, ℕ, zero, suc, ◌+◌, ◌⊎◌, inl, inr, Bool, true, false, cond, Option, Some, None, arith, refl, sym, ap, ◌∙◌, subst, ltb, List, [], ◌∷◌, ◌++◌, length, slice_get, filter}
use Rattle.std.specs.Prelude.{⊤, ◌==◌, ◌&&◌, not}
use Rattle.st_base.specs.declared.fault.Fault.{Fault}
use Rattle.st_base.specs.declared.fault.TheConstants.{NO_UNIT, EXCLUDED, HEADERS, OPEN_HEADER, CLOSED_HEADER, BRACKETS}
use Rattle.st_base.specs.Stabs.{is_stab}
use Rattle.stab_codes.specs.declared.code.TheConstants.{N_SO, N_EXCL}
use Rattle.stab_codes.specs.Table.{carries_symbol}
use Rattle.nlist_codec.specs.declared.named.Named.{Named}
use Rattle.unit_outlines.specs.declared.kinds.Nesting.{Nesting}
use Rattle.unit_outlines.specs.declared.kinds.Nesting.TheVariants.{Opens, Closes, Parts, Other}
use Rattle.unit_outlines.specs.declared.kinds.Link.TheVariants.{Ends, Goes, Broken}
use Rattle.unit_outlines.specs.declared.limits.TheConstants.{HEADER_LIMIT}
use Rattle.unit_outlines.specs.declared.outline_types.Marks.{Marks}
use Rattle.unit_outlines.specs.declared.outline_types.Marks.TheVariants.{Image}
use Rattle.unit_outlines.specs.EntryWords.{next, is_empty}
use Rattle.unit_outlines.specs.Firsts.{told_at}
use Rattle.unit_outlines.specs.Nests.{in_headers, in_blocks, nest_tell}
use Rattle.unit_outlines.specs.Runs.{is_open, link_at, piece_of, broken, more_text, long_at, continued, joined, run_tell}
use Rattle.unit_outlines.specs.Marks.{is_header, all_headers, range_in}
use Rattle.unit_outlines.specs.Outlines.{of_object, place_tell, unit_tell, outline_tell, OutlineFault}
use Rattle.unit_outlines.specs.Sweeps.{files_turned, within_behind, headers_behind, sweep_places}
use Rattle.stab_units.specs.Changing.{Change, is_kept_in, changed}
use Rattle.unit_outlines.proofs.EntryKinds.{is_kind, closes_stab}
use Rattle.unit_outlines.proofs.PlaceSweep.{places_are}
use Rattle.unit_outlines.proofs.UntoldLemmas.{Untold, Unbroken, untold-first, first-untold, none_at, neither, both_none, told-quiet, quiet-told, untold-unbroken, untold-fault}
use Rattle.stab_units.proofs.KindLemmas.{IsMark, carrier, open_carries, no_carries_open, no_carries_piece, closed_ends}
use Rattle.stab_units.proofs.ChangeSteps.{open_places, same_range, Turn, marked, stays, goes_out, before, after, Stays, GoesOut, Walk, kept_places, same_continued}
use Rattle.stab_units.proofs.ChangeWalks.{matched_step, IsMatched, untold-matched, matched-untold, matched_next, turns, before-turns, after-turns, walk}

-- ---- brackets of blocks

-- none of the entries that go is a bracket
abbrev pub NoBlockGoes : List Turn → Type 0
NoBlockGoes [] = ⊤
NoBlockGoes (marked e f ∷ ts) = NoBlockGoes ts
NoBlockGoes (stays e ∷ ts) = NoBlockGoes ts
NoBlockGoes (goes_out e ∷ ts) = (in_blocks e ≡ Other) × NoBlockGoes ts

matched_other : (s : Nesting) (n : ℕ) (rest : ℕ → Type 0) → s ≡ Other → matched_step s n rest → rest n
matched_other s n rest other match = subst (λ z. matched_step z n rest) other match

other_matched : (s : Nesting) (n : ℕ) (rest : ℕ → Type 0) → s ≡ Other → rest n → matched_step s n rest
other_matched s n rest other match = subst (λ z. matched_step z n rest) (sym other) match

more_matched : (s : Nesting) (n : ℕ) (rest more : ℕ → Type 0) → ((m : ℕ) → rest m → more m) → matched_step s n rest → matched_step s n more
more_matched Opens n rest more step match = step (suc n) match
more_matched Closes zero rest more step match = match
more_matched Closes (suc n) rest more step match = step n match
more_matched Parts zero rest more step match = step zero match
more_matched Parts (suc n) rest more step match = match
more_matched Other n rest more step match = step n match

-- ---- header ranges

mark_matched : (s : Nesting) (place : ℕ) (places : List ℕ) (rest : ℕ → Type 0) → ((s ≡ Opens) ⊎ (s ≡ Other)) → rest (length (files_turned s place places))
    → matched_step s (length places) rest
mark_matched Opens place places rest either match = match
mark_matched Closes place places rest either match = elim either [ inl is ↦ absurd cc | inr is ↦ absurd cc ]
mark_matched Parts place places rest either match = elim either [ inl is ↦ absurd cc | inr is ↦ absurd cc ]
mark_matched Other place places rest either match = match

-- ---- strings

no_link : (b same : Bool) → b ≡ true → same ≡ false → broken (cond b (cond same Goes Broken) Ends) ≡ None → ⊥
no_link b same is other none = let w : broken (cond true (cond false Goes Broken) Ends) ≡ None = rw (is, other) at none in absurd cc

none_long : (going : Bool) → long_at going [] ≡ None
none_long true = refl
none_long false = refl

-- ---- stabs by themselves

mark_tell : (within object long : Bool) → cond (not within) (Some NO_UNIT) (cond object (Some EXCLUDED) (cond long (Some HEADERS) None)) ≡ None
    → cond (not within) (Some NO_UNIT) (cond long (Some HEADERS) None) ≡ None
mark_tell false object long none = absurd cc
mark_tell true true long none = absurd cc
mark_tell true false long none = none

image_tell : (stab named within object long : Bool)
    → cond (not stab) None (cond named None (cond (not within) (Some NO_UNIT) (cond object (Some EXCLUDED) (cond long (Some HEADERS) None)))) ≡ None
    → cond (not stab) None (cond named None (cond (not within) (Some NO_UNIT) (cond long (Some HEADERS) None))) ≡ None
image_tell false named within object long none = refl
image_tell true true within object long none = refl
image_tell true false within object long none = mark_tell within object long none

place_none : (o : Option ℕ) (p : ℕ) → o ≡ None → (m : Option Fault) → m ≡ None → told_at o p m ≡ None
place_none o p none m rest = rw none rest

same_kinds : (b : Bool) (g e : Named) → (g.kind == e.kind) ≡ b → carries_symbol e.kind ≡ true → carries_symbol g.kind ≡ false → b ≡ false
same_kinds true g e is carries none = let same : carries_symbol g.kind ≡ carries_symbol e.kind = ap carries_symbol (is_kind g.kind e.kind is) in absurd cc
same_kinds false g e is carries none = refl

closed_joined : (e : Named) (es : List Named) → is_open e ≡ false → joined (e ∷ es) ≡ piece_of e ++ []
closed_joined e es is = ap (λ link. piece_of e ++ more_text link (joined es)) (closed_ends e (next es) is)

mark_joined : (f : Named) (es : List Named) → IsMark f.kind → joined (f ∷ es) ≡ []
mark_joined f es mark = closed_joined f es (no_carries_open f mark.carries) ∙ ap (λ text. text ++ []) (no_carries_piece f mark.carries)

-- no fault of a string is reported at a mark
mark_runs : (new : List Named) (f : Named) (es : List Named) → IsMark f.kind → run_tell new f es ≡ None
mark_runs new f es mark = both_none _ _ (ap broken (closed_ends f (next es) (no_carries_open f mark.carries)))
    (ap (long_at (continued new f)) (mark_joined f es mark) ∙ none_long (continued new f))

-- ---- sorts of faults

units_untold : (marks : Marks) (back es : List Named) → Untold (outline_tell marks) back es → Untold (unit_tell marks) back es
units_untold marks back [] untold = tt
units_untold marks back (e ∷ es) untold = ((told-quiet marks back e es untold.0).unit, units_untold marks (e ∷ back) es untold.1)

headers_untold : (marks : Marks) (back es : List Named) → Untold (outline_tell marks) back es → Untold (nest_tell in_headers OPEN_HEADER CLOSED_HEADER) back es
headers_untold marks back [] untold = tt
headers_untold marks back (e ∷ es) untold = ((told-quiet marks back e es untold.0).headers, headers_untold marks (e ∷ back) es untold.1)

blocks_untold : (marks : Marks) (back es : List Named) → Untold (outline_tell marks) back es → Untold (nest_tell in_blocks BRACKETS BRACKETS) back es
blocks_untold marks back [] untold = tt
blocks_untold marks back (e ∷ es) untold = ((told-quiet marks back e es untold.0).blocks, blocks_untold marks (e ∷ back) es untold.1)

-- nothing is reported for an image where no sort is
all_untold : (back es : List Named) → Untold (unit_tell Image) back es → Untold (nest_tell in_headers OPEN_HEADER CLOSED_HEADER) back es
    → Untold (nest_tell in_blocks BRACKETS BRACKETS) back es → Untold run_tell back es → Untold (outline_tell Image) back es
all_untold back [] units headers blocks runs = tt
all_untold back (e ∷ es) units headers blocks runs =
    let both = neither _ _ runs.0 in (
      quiet-told Image back e es (record { unit = units.0; headers = headers.0; blocks = blocks.0; unbroken = both.0; short = both.1 }),
      all_untold (e ∷ back) es units.1 headers.1 blocks.1 runs.1,
    )

module _ (c : Change) where
  -- ---- blocks

  blocks_after : (ts : List Turn) (back new : List Named) (n : ℕ) → Walk c back new ts → NoBlockGoes ts → IsMatched in_blocks (before ts) n
      → IsMatched in_blocks (after ts) n
  blocks_after [] back new n walk none match = match
  blocks_after (marked e f ∷ ts) back new n walk none match = other_matched (in_blocks f) n (IsMatched in_blocks (after ts)) walk.0.second.blocks
      (blocks_after ts (e ∷ back) (f ∷ new) n walk.2 none (matched_other (in_blocks e) n (IsMatched in_blocks (before ts)) walk.0.first.blocks match))
  blocks_after (stays e ∷ ts) back new n walk none match = more_matched (in_blocks e) n (IsMatched in_blocks (before ts)) (IsMatched in_blocks (after ts))
      (λ m. blocks_after ts (e ∷ back) (e ∷ new) m walk.2 none) match
  blocks_after (goes_out e ∷ ts) back new n walk none match =
      blocks_after ts (e ∷ back) new n walk.2 none.1 (matched_other (in_blocks e) n (IsMatched in_blocks (before ts)) none.0 match)

  -- ---- header ranges

  kept_matched : (s : Nesting) (place : ℕ) (ps qs : List ℕ) (rest more : ℕ → Type 0) → (s ≡ Closes → is_kept_in c (slice_get ps 0) ≡ true)
      → qs ≡ filter c.kept ps
      → matched_step s (length ps) rest → more (length (files_turned s place qs)) → matched_step s (length qs) more
  kept_matched Opens place ps qs rest more kept is match after_it = after_it
  kept_matched Closes place [] qs rest more kept is match after_it = absurd match
  kept_matched Closes place (p ∷ ps) qs rest more kept is match after_it =
      let same : qs ≡ p ∷ filter c.kept ps = is ∙ ap (λ b. cond b (p ∷ filter c.kept ps) (filter c.kept ps)) (kept refl) in
      subst (λ zs. matched_step Closes (length zs) more) (sym same) (subst (λ zs. more (length (files_turned Closes place zs))) same after_it)
  kept_matched Parts place [] qs rest more kept is match after_it = subst (λ zs. matched_step Parts (length zs) more) (sym is) after_it
  kept_matched Parts place (p ∷ ps) qs rest more kept is match after_it = absurd match
  kept_matched Other place ps qs rest more kept is match after_it = after_it

  none_left : (ps qs : List ℕ) → qs ≡ filter c.kept ps → length ps ≡ 0 → length qs ≡ 0
  none_left [] qs is none = ap length is
  none_left (p ∷ ps) qs is none = absurd (omega arith)

  headers_after : (ts : List Turn) (back new : List Named) → Walk c back new ts → IsMatched in_headers (before ts) (length (open_places back))
      → IsMatched in_headers (after ts) (length (open_places new))
  headers_after [] back new walk match = none_left (open_places back) (open_places new) walk.ranges match
  headers_after (marked e f ∷ ts) back new walk match = mark_matched (in_headers f) (all_headers new) (open_places new) (IsMatched in_headers (after ts)) walk.0.second.headers
      (headers_after ts (e ∷ back) (f ∷ new) walk.2 (matched_next (in_headers e) (all_headers back) (open_places back) (IsMatched in_headers (before ts)) match))
  headers_after (stays e ∷ ts) back new walk match = kept_matched (in_headers e) (all_headers new) (open_places back) (open_places new) (IsMatched in_headers (before ts)) (IsMatched in_headers (after ts))
      (λ closes. kept_places c back true (walk.0.kept (closes_stab e.kind closes))) walk.1.ranges match
      (headers_after ts (e ∷ back) (e ∷ new) walk.2 (matched_next (in_headers e) (all_headers back) (open_places back) (IsMatched in_headers (before ts)) match))
  headers_after (goes_out e ∷ ts) back new walk match =
      headers_after ts (e ∷ back) new walk.2 (matched_next (in_headers e) (all_headers back) (open_places back) (IsMatched in_headers (before ts)) match)

  -- ---- stabs by themselves

  mark_none : (marks : Marks) (within : Bool) (n : ℕ) (e f : Named) → IsMark e.kind → IsMark f.kind → place_tell marks within n e ≡ None
      → place_tell Image within n f ≡ None
  mark_none marks within n e f first second none =
      let at_e : cond (not within) (Some NO_UNIT) (cond (of_object marks && (e.kind == N_EXCL)) (Some EXCLUDED) (cond (not (ltb n HEADER_LIMIT)) (Some HEADERS) None)) ≡ None
      = rw (first.stab, first.source, first.header) at none in
      rw (second.stab, second.source, second.header) (mark_tell within (of_object marks && (e.kind == N_EXCL)) (not (ltb n HEADER_LIMIT)) at_e)

  places_after : (marks : Marks) (ts : List Turn) (back new : List Named) (within : Bool) (n p q : ℕ) → Walk c back new ts
      → sweep_places marks within n p (before ts) ≡ None → sweep_places Image within n q (after ts) ≡ None
  places_after marks [] back new within n p q walk none = refl
  places_after marks (marked e f ∷ ts) back new within n p q walk none =
      let first = walk.0.first in let second = walk.0.second in
      let both = none_at (place_tell marks within n e) p (sweep_places marks (within_behind within e) (headers_behind n e) (p + 1) (before ts)) none in
      let rest : sweep_places marks within (n + 1) (p + 1) (before ts) ≡ None = rw (first.source, first.header) at both.1 in
      place_none (place_tell Image within n f) q (mark_none marks within n e f first second both.0) _
      (rw (second.source, second.header) (places_after marks ts (e ∷ back) (f ∷ new) within (n + 1) (p + 1) (q + 1) walk.2 rest))
  places_after marks (stays e ∷ ts) back new within n p q walk none =
      let both = none_at (place_tell marks within n e) p (sweep_places marks (within_behind within e) (headers_behind n e) (p + 1) (before ts)) none in
      place_none (place_tell Image within n e) q
      (image_tell (is_stab e.kind) ((e.kind == N_SO) && not (is_empty e.name)) within (of_object marks && (e.kind == N_EXCL)) (is_header e.kind && not (ltb n HEADER_LIMIT)) both.0) _
      (places_after marks ts (e ∷ back) (e ∷ new) (within_behind within e) (headers_behind n e) (p + 1) (q + 1) walk.2 both.1)
  places_after marks (goes_out e ∷ ts) back new within n p q walk none =
      let both = none_at (place_tell marks within n e) p (sweep_places marks (within_behind within e) (headers_behind n e) (p + 1) (before ts)) none in
      let rest : sweep_places marks within n (p + 1) (before ts) ≡ None = rw (walk.0.source, walk.0.header) at both.1 in
      places_after marks ts (e ∷ back) new within n (p + 1) q walk.2 rest

  -- ---- strings

  -- an entry whose string goes on stands before no mark of a header
  mark_breaks : (e g : Named) (A : Type 0) → is_open e ≡ true → IsMark g.kind → broken (link_at e (Some g)) ≡ None → A
  mark_breaks e g A is mark none = absurd (no_link (is_open e) (g.kind == e.kind) is (same_kinds (g.kind == e.kind) g e refl (open_carries e is) mark.carries) none)

  -- and where it stays the next one stays
  next_gone : (back : List Named) (e g : Named) (A : Type 0) → is_open e ≡ true → Stays c back e → GoesOut c (e ∷ back) g → A
  next_gone back e g A is stay out =
      let carry = carrier e.kind (open_carries e is) in
      let kept : is_kept_in c (range_in (e ∷ back) 0) ≡ true = ap (is_kept_in c) (same_range e back 0 carry.headers) ∙ stay.kept carry.stab in
      let gone : is_kept_in c (range_in (e ∷ back) 0) ≡ false = out.gone in
      absurd cc

  link_by : (b : Bool) (ts : List Turn) (back new : List Named) (e : Named) → is_open e ≡ b → Stays c back e → Walk c (e ∷ back) (e ∷ new) ts
      → broken (link_at e (next (before ts))) ≡ None
      → link_at e (next (after ts)) ≡ link_at e (next (before ts))
  link_by false ts back new e is stay walk none = closed_ends e (next (after ts)) is ∙ sym (closed_ends e (next (before ts)) is)
  link_by true [] back new e is stay walk none = refl
  link_by true (marked g h ∷ ts) back new e is stay walk none = mark_breaks e g _ is walk.0.first none
  link_by true (stays g ∷ ts) back new e is stay walk none = refl
  link_by true (goes_out g ∷ ts) back new e is stay walk none = next_gone back e g _ is stay walk.0

  -- the string of an entry that stays goes on or not as before
  pub same_link : (ts : List Turn) (back new : List Named) (e : Named) → Stays c back e → Walk c (e ∷ back) (e ∷ new) ts
      → broken (link_at e (next (before ts))) ≡ None
      → link_at e (next (after ts)) ≡ link_at e (next (before ts))
  same_link ts back new e stay walk none = link_by (is_open e) ts back new e refl stay walk none

  joined_by : (b : Bool) (ts : List Turn) (back new : List Named) (e : Named) → is_open e ≡ b → Stays c back e → Walk c (e ∷ back) (e ∷ new) ts
      → Unbroken (e ∷ before ts)
      → joined (e ∷ after ts) ≡ joined (e ∷ before ts)
  joined_by false ts back new e is stay walk whole = closed_joined e (after ts) is ∙ sym (closed_joined e (before ts) is)
  joined_by true [] back new e is stay walk whole = refl
  joined_by true (marked g h ∷ ts) back new e is stay walk whole = mark_breaks e g _ is walk.0.first whole.0
  joined_by true (stays g ∷ ts) back new e is stay walk whole =
      ap (λ text. piece_of e ++ more_text (link_at e (Some g)) text) (joined_by (is_open g) ts (e ∷ back) (e ∷ new) g refl walk.0 walk.2 whole.1)
  joined_by true (goes_out g ∷ ts) back new e is stay walk whole = next_gone back e g _ is stay walk.0

  -- and is the same
  pub same_joined : (ts : List Turn) (back new : List Named) (e : Named) → Stays c back e → Walk c (e ∷ back) (e ∷ new) ts → Unbroken (e ∷ before ts)
      → joined (e ∷ after ts) ≡ joined (e ∷ before ts)
  same_joined ts back new e stay walk whole = joined_by (is_open e) ts back new e refl stay walk whole

  runs_after : (marks : Marks) (ts : List Turn) (back new : List Named) → Walk c back new ts → Untold (outline_tell marks) back (before ts)
      → Untold run_tell new (after ts)
  runs_after marks [] back new walk untold = tt
  runs_after marks (marked e f ∷ ts) back new walk untold = (mark_runs new f (after ts) walk.0.second, runs_after marks ts (e ∷ back) (f ∷ new) walk.2 untold.1)
  runs_after marks (stays e ∷ ts) back new walk untold =
      let quiet = told-quiet marks back e (before ts) untold.0 in (
        both_none _ _ (ap broken (same_link ts back new e walk.0 walk.2 quiet.unbroken) ∙ quiet.unbroken)
            (ap (λ b. long_at b (joined (e ∷ after ts))) (same_continued c back new e walk.0 walk.1)
            ∙ ap (long_at (continued back e)) (same_joined ts back new e walk.0 walk.2 (untold-unbroken marks back (e ∷ before ts) untold)) ∙ quiet.short),
        runs_after marks ts (e ∷ back) (e ∷ new) walk.2 untold.1,
      )
  runs_after marks (goes_out e ∷ ts) back new walk untold = runs_after marks ts (e ∷ back) new walk.2 untold.1

  -- ---- together

  outline_after : (marks : Marks) (ts : List Turn) → Walk c [] [] ts → NoBlockGoes ts → Untold (outline_tell marks) [] (before ts)
      → Untold (outline_tell Image) [] (after ts)
  outline_after marks ts walk none untold = all_untold [] (after ts)
      (first-untold (unit_tell Image) [] 0 (after ts) (sym (places_are Image (after ts))
      ∙ places_after marks ts [] [] false 0 0 0 walk (places_are marks (before ts) ∙ untold-first (unit_tell marks) [] 0 (before ts) (units_untold marks [] (before ts) untold))))
      (matched-untold in_headers OPEN_HEADER CLOSED_HEADER (after ts)
      (headers_after ts [] [] walk (untold-matched in_headers OPEN_HEADER CLOSED_HEADER (before ts) (headers_untold marks [] (before ts) untold))))
      (matched-untold in_blocks BRACKETS BRACKETS (after ts)
      (blocks_after ts [] [] 0 walk none (untold-matched in_blocks BRACKETS BRACKETS (before ts) (blocks_untold marks [] (before ts) untold))))
      (runs_after marks ts [] [] walk untold)

  -- header ranges of an outline match
  pub outline_matched : (marks : Marks) (es : List Named) → Untold (outline_tell marks) [] es → IsMatched in_headers es 0
  outline_matched marks es untold = untold-matched in_headers OPEN_HEADER CLOSED_HEADER es (headers_untold marks [] es untold)

  -- the outline of the changed list has no fault
  pub changed_outline : (marks : Marks) (es : List Named) → Untold (outline_tell marks) [] es → NoBlockGoes (turns c [] es)
      → OutlineFault Image (changed c es) None
  changed_outline marks es untold none =
      let ts = turns c [] es in
      let is : before ts ≡ es = before-turns c [] es in
      untold-fault Image (changed c es) (subst (λ zs. Untold (outline_tell Image) [] zs) (after-turns c [] es)
      (outline_after marks ts (walk c es (outline_matched marks es untold)) none (subst (λ zs. Untold (outline_tell marks) [] zs) (sym is) untold)))
