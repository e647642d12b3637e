-- The places of headers in a list of units, and the marks of a changed list: a mark of a source is the same one, a unit ends at the same
-- address, and the marks of its headers are changed.
use Rattle.std.proofs.Common.{◌≡◌, ℕ, ◌+◌, inl, inr, Bool, true, false, cond, Option, Some, None, arith, refl, sym, ap, ◌∙◌, subst, List, [], ◌∷◌, ◌++◌, length}
use Rattle.std.specs.Prelude.{◌==◌, ◌&&◌, ◌||◌, not}
use Rattle.st_base.specs.declared.fault.TheConstants.{NO_UNIT}
use Rattle.st_base.specs.Stabs.{is_stab}
use Rattle.stab_codes.specs.declared.code.TheConstants.{N_SO, N_BINCL, N_EXCL}
use Rattle.nlist_codec.specs.declared.named.Named.{Named}
use Rattle.unit_outlines.specs.declared.kinds.SourceMark.{SourceMark}
use Rattle.unit_outlines.specs.declared.kinds.SourceMark.TheVariants.{Directory, Start, Stop, NoMark}
use Rattle.unit_outlines.specs.declared.outline_types.Marks.{Marks}
use Rattle.unit_outlines.specs.declared.outline_types.HeaderMark.{HeaderMark}
use Rattle.unit_outlines.specs.EntryWords.{next, is_empty, ends_in}
use Rattle.unit_outlines.specs.Marks.{names_source, mark_at, in_unit, is_header, all_headers, range_in}
use Rattle.unit_outlines.specs.Outlines.{header_at, headers_from, end_number, inside, end_step, end_of, span_step, span_at, units_from, directory_of, outline_tell}
use Rattle.stab_units.specs.Changing.{Change, is_kept_in, mark_changed, AreMarksChanged}
use Rattle.stab_units.proofs.AlikeLemmas.{both_true}
use Rattle.stab_units.proofs.ReadableLemmas.{directory_next, no_stop, no_mark}
use Rattle.unit_outlines.proofs.UntoldLemmas.{Untold, told-quiet}
use Rattle.unit_outlines.proofs.EntryKinds.{source_header, no_source_mark}
use Rattle.stab_units.proofs.KindLemmas.{header_kind, header_mark}
use Rattle.stab_units.proofs.ChangeSteps.{source_range, Turn, marked, stays, goes_out, before, after, IsMarked, Stays, Walk}
use Rattle.stab_units.proofs.ChangeWalks.{walk}

-- ---- headers that stand ahead

-- how many headers stand before the next N_SO
abbrev pub headers_ahead : List Named → ℕ
headers_ahead [] = 0
headers_ahead (e ∷ es) = cond (e.kind == N_SO) 0 (cond (is_header e.kind) (headers_ahead es + 1) (headers_ahead es))

count_by : (begins_range excluded : Bool) (m n : HeaderMark) (ms : List HeaderMark) (k : ℕ) → length ms ≡ k
    → length (cond begins_range (m ∷ []) (cond excluded (n ∷ []) []) ++ ms) ≡ cond (begins_range || excluded) (k + 1) k
count_by true excluded m n ms k is = omega arith
count_by false true m n ms k is = omega arith
count_by false false m n ms k is = is

counted_by : (source : Bool) (p : ℕ) (e : Named) (es : List Named) → (e.kind == N_SO) ≡ source → length (headers_from (p + 1) (inside es)) ≡ headers_ahead es
    → length (headers_from p (inside (e ∷ es))) ≡ headers_ahead (e ∷ es)
counted_by true p e es source is = rw source refl
counted_by false p e es source is = rw source (count_by (e.kind == N_BINCL) (e.kind == N_EXCL) _ _ (headers_from (p + 1) (inside es)) (headers_ahead es) is)

-- a unit has as many headers
pub headers_counted : (p : ℕ) (es : List Named) → length (headers_from p (inside es)) ≡ headers_ahead es
headers_counted p [] = refl
headers_counted p (e ∷ es) = counted_by (e.kind == N_SO) p e es refl (headers_counted (p + 1) es)

-- a stab for which nothing is reported stands in a unit, if it is no N_SO
stab_within : (stab source named within : Bool) (o : Option ℕ) → stab ≡ true → source ≡ false
    → cond (not stab) None (cond (source && named) None (cond (not within) (Some NO_UNIT) o)) ≡ None → within ≡ true
stab_within true true named within o is other none = absurd cc
stab_within true false named true o is other none = refl
stab_within true false named false o is other none = absurd cc
stab_within false source named within o is other none = absurd cc

module _ (marks : Marks) where
  pub in_its_unit : (back : List Named) (e : Named) (es : List Named) → Untold (outline_tell marks) back (e ∷ es) → is_stab e.kind ≡ true
      → (e.kind == N_SO) ≡ false → in_unit back ≡ true
  in_its_unit back e es untold stab source = stab_within (is_stab e.kind) (e.kind == N_SO) (not (is_empty e.name)) (in_unit back) _ stab source (told-quiet marks back e es untold.0).unit

  none_by : (source header : Bool) (back : List Named) (e : Named) (es : List Named) → (e.kind == N_SO) ≡ source → is_header e.kind ≡ header
      → Untold (outline_tell marks) back (e ∷ es)
      → in_unit back ≡ false → (in_unit (e ∷ back) ≡ false → headers_ahead es ≡ 0) → headers_ahead (e ∷ es) ≡ 0
  none_by true header back e es source is untold out rest = rw source refl
  none_by false true back e es source is untold out rest =
      let within = in_its_unit back e es untold (header_mark e.kind is).stab source in absurd cc
  none_by false false back e es source is untold out rest =
      let more : headers_ahead es ≡ 0 = rest (ap (λ b. cond b (not (is_empty e.name)) (in_unit back)) source ∙ out) in
      rw (source, is) more

  -- outside every unit there is none
  pub none_ahead : (back es : List Named) → Untold (outline_tell marks) back es → in_unit back ≡ false → headers_ahead es ≡ 0
  none_ahead back [] untold out = refl
  none_ahead back (e ∷ es) untold out = none_by (e.kind == N_SO) (is_header e.kind) back e es refl refl untold out (none_ahead (e ∷ back) es untold.1)

  source_ahead : (es : List Named) → names_source (next es) ≡ true → headers_ahead es ≡ 0
  source_ahead [] names = refl
  source_ahead (f ∷ es) names = ap (λ b. cond b 0 (cond (is_header f.kind) (headers_ahead es + 1) (headers_ahead es))) (both_true (f.kind == N_SO) _ names).0

  outside_by : (named : Bool) (back : List Named) (e : Named) (es : List Named) → not (is_empty e.name) ≡ named → (e.kind == N_SO) ≡ true
      → mark_at e (next es) ≡ Stop
      → Untold (outline_tell marks) (e ∷ back) es → headers_ahead es ≡ 0
  outside_by true back e es named source stops untold = absurd (no_stop (e.kind == N_SO) (is_empty e.name) _ stops named)
  outside_by false back e es named source stops untold = none_ahead (e ∷ back) es untold (ap (λ b. cond b (not (is_empty e.name)) (in_unit back)) source ∙ named)

  -- there are some after an N_SO only if it begins a unit
  pub mark_ahead : (mark : SourceMark) (back : List Named) (e : Named) (es : List Named) → (mark ≡ Start → ⊥) → mark_at e (next es) ≡ mark
      → (e.kind == N_SO) ≡ true
      → Untold (outline_tell marks) (e ∷ back) es → headers_ahead es ≡ 0
  mark_ahead Directory back e es other is source untold = source_ahead es (directory_next (e.kind == N_SO) (is_empty e.name) (ends_in 47 e.name) (names_source (next es)) is)
  mark_ahead Start back e es other is source untold = absurd (other refl)
  mark_ahead Stop back e es other is source untold = outside_by (not (is_empty e.name)) back e es refl source is untold
  mark_ahead NoMark back e es other is source untold = absurd (no_mark (e.kind == N_SO) (is_empty e.name) _ is source)

-- the first header of the next unit has this place
abbrev pub IsNext : ℕ → List Named → List Named → Type 0
IsNext place back es = place ≡ all_headers back + headers_ahead es

next_by : (header : Bool) (place all ahead : ℕ) → place ≡ all + cond header (ahead + 1) ahead → place ≡ cond header (all + 1) all + ahead
next_by true place all ahead is = omega arith
next_by false place all ahead is = is

-- so it is after one more entry of a unit
pub next_more : (place : ℕ) (back : List Named) (e : Named) (es : List Named) → (e.kind == N_SO) ≡ false → IsNext place back (e ∷ es)
    → IsNext place (e ∷ back) es
next_more place back e es source is = next_by (is_header e.kind) place (all_headers back) (headers_ahead es)
    (is ∙ ap (λ b. all_headers back + cond b 0 (cond (is_header e.kind) (headers_ahead es + 1) (headers_ahead es))) source)

-- at an N_SO all headers stand before it
pub next_source : (place : ℕ) (back : List Named) (e : Named) (es : List Named) → (e.kind == N_SO) ≡ true → IsNext place back (e ∷ es)
    → place ≡ all_headers (e ∷ back)
next_source place back e es source is =
    let before_it : place ≡ all_headers back + 0 = is
    ∙ ap (λ b. all_headers back + cond b 0 (cond (is_header e.kind) (headers_ahead es + 1) (headers_ahead es))) source in
    let none : all_headers (e ∷ back) ≡ all_headers back = ap (λ b. cond b (all_headers back + 1) (all_headers back)) (source_header e.kind source) in
    omega (arith, before_it, none)

pub next_none : (place all ahead : ℕ) → place ≡ all → ahead ≡ 0 → place ≡ all + ahead
next_none place all ahead is none = omega arith

pub next_unit : (place all ahead count : ℕ) → place ≡ all → count ≡ ahead → place + count ≡ all + ahead
next_unit place all ahead count is counted = omega arith

-- ---- marks of sources

pub no_unit : (text_end : ℕ) (directory : List ℕ) (p : ℕ) (e : Named) (es : List Named) → (e.kind == N_SO) ≡ false
    → units_from text_end directory p (e ∷ es) ≡ units_from text_end [] (p + 1) es
no_unit text_end directory p e es other =
    ap (λ m. span_step m (span_at text_end directory p e es) (units_from text_end (directory_of m e.name) (p + 1) es)) (no_source_mark e (next es) other)

no_end : (text_end : ℕ) (e : Named) (es : List Named) → (e.kind == N_SO) ≡ false → end_of text_end (e ∷ es) ≡ end_of text_end es
no_end text_end e es other = ap (λ m. end_step m e.value (end_of text_end es)) (no_source_mark e (next es) other)

names_other : (g : Named) → (g.kind == N_SO) ≡ false → names_source (Some g) ≡ false
names_other g other = ap (λ b. b && (not (is_empty g.name) && not (ends_in 47 g.name))) other

same_mark : (e : Named) (o n : Option Named) → names_source n ≡ names_source o → mark_at e n ≡ mark_at e o
same_mark e o n same = ap (λ b. cond (e.kind == N_SO) (cond (is_empty e.name) Stop (cond (ends_in 47 e.name && b) Directory Start)) NoMark) same

no_mark_by : (begins_range excluded : Bool) (m n : HeaderMark) (ms : List HeaderMark) → (begins_range || excluded) ≡ false
    → cond begins_range (m ∷ []) (cond excluded (n ∷ []) []) ++ ms ≡ ms
no_mark_by true excluded m n ms is = absurd cc
no_mark_by false true m n ms is = absurd cc
no_mark_by false false m n ms is = refl

module _ (c : Change) where
  -- ---- one entry more

  -- nothing goes right after an N_SO
  next_names : (ts : List Turn) (back new : List Named) (e : Named) → (e.kind == N_SO) ≡ true → Walk c (e ∷ back) (e ∷ new) ts
      → names_source (next (after ts)) ≡ names_source (next (before ts))
  next_names [] back new e source walk = refl
  next_names (marked g h ∷ ts) back new e source walk = names_other h walk.0.second.source ∙ sym (names_other g walk.0.first.source)
  next_names (stays g ∷ ts) back new e source walk = refl
  next_names (goes_out g ∷ ts) back new e source walk =
      let kept : is_kept_in c (range_in (e ∷ back) 0) ≡ true = ap (is_kept_in c) (source_range e back 0 source) in
      let gone : is_kept_in c (range_in (e ∷ back) 0) ≡ false = walk.0.gone in
      absurd cc

  mark_by : (source : Bool) (ts : List Turn) (back new : List Named) (e : Named) → (e.kind == N_SO) ≡ source → Walk c (e ∷ back) (e ∷ new) ts
      → mark_at e (next (after ts)) ≡ mark_at e (next (before ts))
  mark_by true ts back new e source walk = same_mark e (next (before ts)) (next (after ts)) (next_names ts back new e source walk)
  mark_by false ts back new e source walk = no_source_mark e (next (after ts)) source ∙ sym (no_source_mark e (next (before ts)) source)

  -- an entry that stays is the same mark of a source
  pub mark_after : (ts : List Turn) (back new : List Named) (e : Named) → Walk c (e ∷ back) (e ∷ new) ts
      → mark_at e (next (after ts)) ≡ mark_at e (next (before ts))
  mark_after ts back new e walk = mark_by (e.kind == N_SO) ts back new e refl walk

  -- a unit ends at the same address
  pub end_after : (text_end : ℕ) (ts : List Turn) (back new : List Named) → Walk c back new ts → end_of text_end (after ts) ≡ end_of text_end (before ts)
  end_after text_end [] back new walk = refl
  end_after text_end (marked e f ∷ ts) back new walk = no_end text_end f (after ts) walk.0.second.source ∙ end_after text_end ts (e ∷ back) (f ∷ new) walk.2
      ∙ sym (no_end text_end e (before ts) walk.0.first.source)
  end_after text_end (stays e ∷ ts) back new walk = ap (λ m. end_step m e.value (end_of text_end (after ts))) (mark_after ts back new e walk.2)
      ∙ ap (end_step (mark_at e (next (before ts))) e.value) (end_after text_end ts (e ∷ back) (e ∷ new) walk.2)
  end_after text_end (goes_out e ∷ ts) back new walk = end_after text_end ts (e ∷ back) new walk.2 ∙ sym (no_end text_end e (before ts) walk.0.source)

  -- ---- headers of a unit

  kept_mark : (kept : Bool) (place p q past past_new : ℕ) (e : Named) (ms ns : List HeaderMark) → c.kept place ≡ kept → AreMarksChanged c (place + 1) ms ns
      → AreMarksChanged c place (record { name = e.name; first = p; past = past; excluded = false; value = e.value } ∷ ms)
      (header_at q past_new (record e { kind = cond kept N_BINCL N_EXCL; value = c.value place }) ++ ns)
  kept_mark true place p q past past_new e ms ns is rest = (record { name = refl; excluded = rw is refl; value = refl }, rest)
  kept_mark false place p q past past_new e ms ns is rest = (record { name = refl; excluded = rw is refl; value = refl }, rest)

  begin_changed : (place p q past past_new : ℕ) (e : Named) (ms ns : List HeaderMark) → e.kind ≡ N_BINCL → AreMarksChanged c (place + 1) ms ns
      → AreMarksChanged c place (header_at p past e ++ ms) (header_at q past_new (mark_changed c place e) ++ ns)
  begin_changed place p q past past_new e ms ns is rest = rw is (kept_mark (c.kept place) place p q past past_new e ms ns refl rest)

  excluded_changed : (place p q past past_new : ℕ) (e : Named) (ms ns : List HeaderMark) → e.kind ≡ N_EXCL → AreMarksChanged c (place + 1) ms ns
      → AreMarksChanged c place (header_at p past e ++ ms) (header_at q past_new (mark_changed c place e) ++ ns)
  excluded_changed place p q past past_new e ms ns is rest = rw is (record { name = refl; excluded = refl; value = refl }, rest)

  -- the mark of a header and what it becomes
  header_changed : (place p q past past_new : ℕ) (e : Named) (ms ns : List HeaderMark) → is_header e.kind ≡ true → AreMarksChanged c (place + 1) ms ns
      → AreMarksChanged c place (header_at p past e ++ ms) (header_at q past_new (mark_changed c place e) ++ ns)
  header_changed place p q past past_new e ms ns header rest = elim (header_kind e.kind header) [
    | inl is ↦ begin_changed place p q past past_new e ms ns is rest
    | inr is ↦ excluded_changed place p q past past_new e ms ns is rest
  ]

  none_here : (p past : ℕ) (e : Named) (ms : List HeaderMark) → is_header e.kind ≡ false → header_at p past e ++ ms ≡ ms
  none_here p past e ms other = no_mark_by (e.kind == N_BINCL) (e.kind == N_EXCL) _ _ ms other

  inside_source : (e : Named) (es : List Named) → (e.kind == N_SO) ≡ true → inside (e ∷ es) ≡ []
  inside_source e es source = ap (λ b. cond b [] (e ∷ inside es)) source

  inside_more : (e : Named) (es : List Named) → (e.kind == N_SO) ≡ false → inside (e ∷ es) ≡ e ∷ inside es
  inside_more e es source = ap (λ b. cond b [] (e ∷ inside es)) source

  -- no header is at an entry that is no mark of one
  no_header : (p : ℕ) (e : Named) (es : List Named) → (e.kind == N_SO) ≡ false → is_header e.kind ≡ false
      → headers_from p (inside (e ∷ es)) ≡ headers_from (p + 1) (inside es)
  no_header p e es source other = ap (headers_from p) (inside_more e es source)
      ∙ none_here p (end_number (p + 1) (inside es)) e (headers_from (p + 1) (inside es)) other

  both_marks : (place : ℕ) (ms ms_same ns ns_same : List HeaderMark) → ms ≡ ms_same → ns ≡ ns_same → AreMarksChanged c place ms_same ns_same
      → AreMarksChanged c place ms ns
  both_marks place ms ms_same ns ns_same first second changed_marks = rw (first, second) changed_marks

  stays_headers : (source : Bool) (ts : List Turn) (back : List Named) (e : Named) (p q : ℕ) → (e.kind == N_SO) ≡ source → Stays c back e
      → AreMarksChanged c (all_headers back) (headers_from (p + 1) (inside (before ts))) (headers_from (q + 1) (inside (after ts)))
      → AreMarksChanged c (all_headers back) (headers_from p (inside (e ∷ before ts))) (headers_from q (inside (e ∷ after ts)))
  stays_headers true ts back e p q source stay rest = both_marks (all_headers back) _ [] _ []
      (ap (headers_from p) (inside_source e (before ts) source)) (ap (headers_from q) (inside_source e (after ts) source)) tt
  stays_headers false ts back e p q source stay rest = both_marks (all_headers back) _ _ _ _ (no_header p e (before ts) source stay.header) (no_header q e (after ts) source stay.header) rest

  next_place : (header : Bool) (n : ℕ) (ms ns : List HeaderMark) → header ≡ true → AreMarksChanged c (cond header (n + 1) n) ms ns
      → AreMarksChanged c (n + 1) ms ns
  next_place header n ms ns is rest = subst (λ b. AreMarksChanged c (cond b (n + 1) n) ms ns) is rest

  same_place : (header : Bool) (n : ℕ) (ms ns : List HeaderMark) → header ≡ false → AreMarksChanged c (cond header (n + 1) n) ms ns → AreMarksChanged c n ms ns
  same_place header n ms ns is rest = subst (λ b. AreMarksChanged c (cond b (n + 1) n) ms ns) is rest

  marked_headers : (ts : List Turn) (back : List Named) (e f : Named) (p q : ℕ) → IsMarked c back e f
      → AreMarksChanged c (all_headers back + 1) (headers_from (p + 1) (inside (before ts))) (headers_from (q + 1) (inside (after ts)))
      → AreMarksChanged c (all_headers back) (headers_from p (inside (e ∷ before ts))) (headers_from q (inside (f ∷ after ts)))
  marked_headers ts back e f p q mark rest =
      let one = header_changed (all_headers back) p q (end_number (p + 1) (inside (before ts))) (end_number (q + 1) (inside (after ts))) e
      (headers_from (p + 1) (inside (before ts))) (headers_from (q + 1) (inside (after ts))) mark.first.header rest in
      both_marks (all_headers back) _ (headers_from p (e ∷ inside (before ts))) _ (headers_from q (f ∷ inside (after ts)))
      (ap (headers_from p) (inside_more e (before ts) mark.first.source)) (ap (headers_from q) (inside_more f (after ts) mark.second.source))
      (subst (λ g. AreMarksChanged c (all_headers back) (headers_from p (e ∷ inside (before ts))) (headers_from q (g ∷ inside (after ts)))) (sym mark.is) one)

  -- the marks of the headers of a unit are changed
  pub headers_after : (ts : List Turn) (back new : List Named) (p q : ℕ) → Walk c back new ts
      → AreMarksChanged c (all_headers back) (headers_from p (inside (before ts))) (headers_from q (inside (after ts)))
  headers_after [] back new p q walk = tt
  headers_after (marked e f ∷ ts) back new p q walk = marked_headers ts back e f p q walk.0
      (next_place (is_header e.kind) (all_headers back) _ _ walk.0.first.header (headers_after ts (e ∷ back) (f ∷ new) (p + 1) (q + 1) walk.2))
  headers_after (stays e ∷ ts) back new p q walk = stays_headers (e.kind == N_SO) ts back e p q refl walk.0
      (same_place (is_header e.kind) (all_headers back) _ _ walk.0.header (headers_after ts (e ∷ back) (e ∷ new) (p + 1) (q + 1) walk.2))
  headers_after (goes_out e ∷ ts) back new p q walk =
      both_marks (all_headers back) _ _ _ _ (no_header p e (before ts) walk.0.source walk.0.header) refl
      (same_place (is_header e.kind) (all_headers back) _ _ walk.0.header (headers_after ts (e ∷ back) new (p + 1) q walk.2))
