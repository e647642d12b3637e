-- Values of N_BINCL stand in no unit and in no fault: lists of entries that are the same without them have the same units and the
-- same faults. Each definition gives the same for the list without them, but for the values of header marks, which no unit holds.
use Rattle.std.proofs.Common.{◌≡◌, ℕ, zero, suc, ◌+◌, ◌⊎◌, inl, inr, Option, Some, None, Bool, true, false, cond, refl, sym, ap, ◌∙◌, subst, List, [], ◌∷◌, ◌++◌, drop}
use Rattle.std.specs.Prelude.{◌==◌, ◌&&◌, not, map}
use Rattle.std.proofs.lemmas.List.{map-append, drop-map}
use Rattle.st_base.specs.declared.fault.Fault.{Fault}
use Rattle.st_base.specs.declared.fault.TheConstants.{OPEN_HEADER, CLOSED_HEADER, BRACKETS}
use Rattle.stab_codes.specs.declared.code.TheConstants.{N_SO, N_BINCL}
use Rattle.stab_codes.specs.Table.{carries_symbol}
use Rattle.nlist_codec.specs.declared.named.Named.{Named}
use Rattle.unit_outlines.specs.declared.kinds.SourceMark.{SourceMark}
use Rattle.unit_outlines.specs.declared.kinds.SourceMark.TheVariants.{Directory, Start, Stop, NoMark}
use Rattle.unit_outlines.specs.declared.kinds.Nesting.{Nesting}
use Rattle.unit_outlines.specs.declared.kinds.Nesting.TheVariants.{Opens, Closes, Parts, Other}
use Rattle.unit_outlines.specs.declared.kinds.Link.{Link}
use Rattle.unit_outlines.specs.declared.outline_types.Marks.{Marks}
use Rattle.unit_outlines.specs.declared.outline_types.Marks.TheVariants.{Object}
use Rattle.unit_outlines.specs.declared.outline_types.HeaderMark.{HeaderMark}
use Rattle.unit_outlines.specs.declared.outline_types.UnitSpan.{UnitSpan}
use Rattle.stab_units.specs.declared.unit.Unit.{Unit}
use Rattle.stab_units.specs.Forgetting.{forgotten}
use Rattle.unit_outlines.specs.EntryWords.{next}
use Rattle.unit_outlines.specs.Firsts.{smaller, Telling, first_told}
use Rattle.unit_outlines.specs.Nests.{one_more, closing, level, in_headers, in_blocks, nest_tell, closing_step}
use Rattle.unit_outlines.specs.Runs.{link_at, piece_of, goes_on, text_of, run_tells, continued}
use Rattle.unit_outlines.specs.Marks.{mark_at, in_unit, headers_in, file_step, file_in, is_plain}
use Rattle.unit_outlines.specs.Outlines.{end_number, header_at, headers_from, inside, end_of, past_of, span_at, span_step, units_from, units_of, directory_of, unit_tell, outline_tell, OutlineFault}
use Rattle.stab_units.specs.Units.{Stab, Filed, string_of, stab_at, stabs_from, stabs_of, AreRead, header_name, unit_of, IsUnitOf, UnitFault, FirstFault, AreUnitsOf, SpansFault}
use Rattle.stab_units.specs.ObjectUnits.{AreUnits, UnitsFault}
use Rattle.unit_outlines.proofs.FirstLemmas.{first_of_all}
use Rattle.unit_outlines.proofs.Together.{outline_first, one_fault}
use Rattle.unit_outlines.proofs.EntryKinds.{is_kind}

-- ---- what is kept of an entry

kind_of_either : (b : Bool) (e : Named) → (cond b (record e { value = 0 }) e).kind ≡ e.kind
kind_of_either true e = refl
kind_of_either false e = refl

name_of_either : (b : Bool) (e : Named) → (cond b (record e { value = 0 }) e).name ≡ e.name
name_of_either true e = refl
name_of_either false e = refl

-- the kind of an entry is kept
kept_kind : (e : Named) → (forgotten e).kind ≡ e.kind
kept_kind e = kind_of_either (e.kind == N_BINCL) e

-- and its name
kept_name : (e : Named) → (forgotten e).name ≡ e.name
kept_name e = name_of_either (e.kind == N_BINCL) e

kept_either : (b : Bool) (e : Named) → (e.kind == N_BINCL) ≡ b → (e.kind ≡ N_BINCL) ⊎ (cond b (record e { value = 0 }) e ≡ e)
kept_either true e q = inl (is_kind e.kind N_BINCL q)
kept_either false e q = inr refl

-- an entry is an N_BINCL, or all of it is kept
kept : (e : Named) → (e.kind ≡ N_BINCL) ⊎ (forgotten e ≡ e)
kept e = kept_either (e.kind == N_BINCL) e refl

-- ---- any entries, each of which is to a definition what the one in its place is

-- the step to what closes a mark looks at what is after by its values alone
same_closing : (s : Nesting) (n : ℕ) (f g : ℕ → Option ℕ) → ((m : ℕ) → f m ≡ g m) → closing_step s n f ≡ closing_step s n g
same_closing Opens n f g same = ap one_more (same (suc n))
same_closing Closes zero f g same = refl
same_closing Closes (suc n) f g same = ap one_more (same n)
same_closing Parts n f g same = refl
same_closing Other n f g same = ap one_more (same n)

module _ {E : Type 0} (h : E → E) where
  module _ (role : E → Nesting) (same_role : (e : E) → role (h e) ≡ role e) where
    -- the same end closes a mark
    pub closing-map : (es : List E) (n : ℕ) → closing role (map h es) n ≡ closing role es n
    closing-map [] n = refl
    closing-map (e ∷ es) n = rw (same_role e) (same_closing (role e) n (closing role (map h es)) (closing role es) (closing-map es))

    -- as many are open
    pub level-map : (back : List E) → level role (map h back) ≡ level role back
    level-map [] = refl
    level-map (e ∷ back) = rw (same_role e, level-map back) refl

    -- the same marks do not match
    pub nest_tell-map : (unclosed unopened : ℕ) (back : List E) (e : E) (es : List E) → nest_tell role unclosed unopened (map h back) (h e) (map h es) ≡ nest_tell role unclosed unopened back e es
    nest_tell-map unclosed unopened back e es = rw (same_role e, closing-map es 0, level-map back) refl

  module _ (bond : E → Option E → Link) (piece : E → List ℕ) (same_bond : (e : E) (es : List E) → bond (h e) (next (map h es)) ≡ bond e (next es))
      (same_piece : (e : E) → piece (h e) ≡ piece e) where
    -- the same entries go on with a string
    pub goes_on-map : (back : List E) (e : E) → goes_on bond piece (map h back) (h e) ≡ goes_on bond piece back e
    goes_on-map [] e = refl
    goes_on-map (d ∷ back) e = rw (same_bond d (e ∷ [])) refl

    -- strings are the same
    pub text_of-map : (es : List E) → text_of bond piece (map h es) ≡ text_of bond piece es
    text_of-map [] = refl
    text_of-map (e ∷ es) = rw (same_piece e, same_bond e es, text_of-map es) refl

    -- and so are their faults
    pub run_tells-map : (back : List E) (e : E) (es : List E) → run_tells bond piece (map h back) (h e) (map h es) ≡ run_tells bond piece back e es
    run_tells-map back e es = rw (same_bond e es, goes_on-map back e, same_piece e, text_of-map es) refl

  module _ (tell : Telling E) (same_tell : (back : List E) (e : E) (es : List E) → tell (map h back) (h e) (map h es) ≡ tell back e es) where
    -- what is reported at each entry is reported first
    pub first_told-map : (back : List E) (p : ℕ) (es : List E) → first_told tell (map h back) p (map h es) ≡ first_told tell back p es
    first_told-map back p [] = refl
    first_told-map back p (e ∷ es) = rw (same_tell back e es, first_told-map (e ∷ back) (p + 1) es) refl

-- ---- steps of the definitions

-- the step to the file of an entry looks at what is before it by its values alone
pub same_file : (s : Nesting) (n : ℕ) (number other : ℕ) (f g : ℕ → ℕ) → number ≡ other → ((m : ℕ) → f m ≡ g m) → file_step s n number f ≡ file_step s n other g
same_file Opens zero number other f g is same = is
same_file Opens (suc n) number other f g is same = same n
same_file Closes n number other f g is same = same (suc n)
same_file Parts n number other f g is same = refl
same_file Other n number other f g is same = same n

-- the faults of an entry are the same where those of each sort are
pub same_smallest : (a b c d k l m n : Option ℕ) → a ≡ k → b ≡ l → c ≡ m → d ≡ n → smaller a (smaller (smaller b c) d) ≡ smaller k (smaller (smaller l m) n)
same_smallest a b c d k l m n unit headers blocks runs = rw (unit, headers, blocks, runs) refl

-- one more entry before those inside a unit
same_inside : (h : Named → Named) (e : Named) (b c : Bool) (es fs : List Named) → c ≡ b → fs ≡ map h es → cond c [] (h e ∷ fs) ≡ map h (cond b [] (e ∷ es))
same_inside h e true c es fs test same = rw test refl
same_inside h e false c es fs test same = rw (test, same) refl

-- a mark without its value
abbrev unvalued : HeaderMark → HeaderMark
unvalued mark = record mark { value = 0 }

-- a span whose marks have no values
abbrev bare : UnitSpan → UnitSpan
bare span = record span { headers = map unvalued span.headers }

-- an N_BINCL begins no unit
no_start : (e : Named) (o : Option Named) → e.kind ≡ N_BINCL → mark_at e o ≡ Start → ⊥
no_start e o begins starts = let other : mark_at e o ≡ NoMark = rw begins refl in absurd cc

-- the spans of entries are the same where each of them is
same_step : (mark : SourceMark) (s t : UnitSpan) (ss ts : List UnitSpan) → (mark ≡ Start → bare s ≡ bare t) → map bare ss ≡ map bare ts
    → map bare (span_step mark s ss) ≡ map bare (span_step mark t ts)
same_step Directory s t ss ts is same = same
same_step Start s t ss ts is same = ap (λ z. z ∷ map bare ss) (is refl) ∙ ap (λ zs. bare t ∷ zs) same
same_step Stop s t ss ts is same = same
same_step NoMark s t ss ts is same = same

-- the string of a stab is made of its kind, its joined string and its name
pub same_string : (k l : ℕ) (s t n m : List ℕ) → k ≡ l → s ≡ t → n ≡ m → cond (carries_symbol k) s n ≡ cond (carries_symbol l) t m
same_string k l s t n m kind string name = rw (kind, string, name) refl

-- the stab that an entry begins is made of these
same_stab : (b c : Bool) (d e : Named) (p f g : ℕ) (s t : List ℕ) → b ≡ c → d ≡ e → f ≡ g → s ≡ t
    → cond {A = List Stab} b (record { entry = d; place = p; file = f; string = s } ∷ []) [] ≡ cond {A = List Stab} c (record { entry = e; place = p; file = g; string = t } ∷ []) []
same_stab b c d e p f g s t begins entry file string = rw (begins, entry, file, string) refl

-- one more entry before those whose stabs are the same
same_stabs : (k l : ℕ) (ss ts us vs : List Stab) → k ≡ l → ss ≡ ts → us ≡ vs → cond (k == N_SO) [] (ss ++ us) ≡ cond (l == N_SO) [] (ts ++ vs)
same_stabs k l ss ts us vs kind here more = rw (kind, here, more) refl

-- ---- entries that keep their kinds and names

module _ (h : Named → Named) (kind : (e : Named) → (h e).kind ≡ e.kind) (name : (e : Named) → (h e).name ≡ e.name) where
  -- the same entries begin a unit, name its directory or end it
  mark_at-map : (e : Named) (es : List Named) → mark_at (h e) (next (map h es)) ≡ mark_at e (next es)
  mark_at-map e [] = rw (kind e, name e) refl
  mark_at-map e (f ∷ es) = rw (kind e, name e, kind f, name f) refl

  -- the same entries are in a unit
  in_unit-map : (back : List Named) → in_unit (map h back) ≡ in_unit back
  in_unit-map [] = refl
  in_unit-map (e ∷ back) = rw (kind e, name e, in_unit-map back) refl

  -- after as many headers
  headers_in-map : (back : List Named) → headers_in (map h back) ≡ headers_in back
  headers_in-map [] = refl
  headers_in-map (e ∷ back) = rw (kind e, headers_in-map back) refl

  -- an entry is the same to the ranges of headers
  in_headers-same : (e : Named) → in_headers (h e) ≡ in_headers e
  in_headers-same e = rw (kind e) refl

  -- and to blocks
  in_blocks-same : (e : Named) → in_blocks (h e) ≡ in_blocks e
  in_blocks-same e = rw (kind e) refl

  -- it is in the same file
  file_in-map : (back : List Named) (ends : ℕ) → file_in (map h back) ends ≡ file_in back ends
  file_in-map [] ends = refl
  file_in-map (e ∷ back) ends = rw (in_headers-same e) (same_file (in_headers e) ends _ _ (file_in (map h back)) (file_in back) (headers_in-map (e ∷ back)) (file_in-map back))

  -- its string goes on or not
  link_at-map : (e : Named) (es : List Named) → link_at (h e) (next (map h es)) ≡ link_at e (next es)
  link_at-map e [] = rw (kind e, name e) refl
  link_at-map e (f ∷ es) = rw (kind e, name e, kind f) refl

  -- and is the same
  piece_of-same : (e : Named) → piece_of (h e) ≡ piece_of e
  piece_of-same e = rw (kind e, name e) refl

  -- the same entries are inside a unit
  inside-map : (es : List Named) → inside (map h es) ≡ map h (inside es)
  inside-map [] = refl
  inside-map (e ∷ es) = same_inside h e (e.kind == N_SO) ((h e).kind == N_SO) (inside es) (inside (map h es)) (ap (λ k. k == N_SO) (kind e)) (inside-map es)

  -- as many belong to the unit before them
  past_of-map : (es : List Named) → past_of (map h es) ≡ past_of es
  past_of-map [] = refl
  past_of-map (e ∷ es) = rw (mark_at-map e es, past_of-map es) refl

  -- ---- faults of an outline

  -- what is reported for an entry by itself
  unit_tell-map : (marks : Marks) (back : List Named) (e : Named) (es : List Named) → unit_tell marks (map h back) (h e) (map h es) ≡ unit_tell marks back e es
  unit_tell-map marks back e es = rw (in_unit-map back, headers_in-map back, kind e, name e) refl

  -- every fault of an outline is reported at the same entry
  outline_tell-map : (marks : Marks) (back : List Named) (e : Named) (es : List Named) → outline_tell marks (map h back) (h e) (map h es) ≡ outline_tell marks back e es
  outline_tell-map marks back e es = same_smallest _ _ _ _ _ _ _ _
      (unit_tell-map marks back e es)
      (nest_tell-map h in_headers in_headers-same OPEN_HEADER CLOSED_HEADER back e es)
      (nest_tell-map h in_blocks in_blocks-same BRACKETS BRACKETS back e es)
      (run_tells-map h link_at piece_of link_at-map piece_of-same back e es)

  -- ---- and all but the values of N_BINCL

  module _ (kept : (e : Named) → (e.kind ≡ N_BINCL) ⊎ (h e ≡ e)) where
    -- a unit ends at the same address: an N_BINCL ends none
    end_of-map : (text_end : ℕ) (es : List Named) → end_of text_end (map h es) ≡ end_of text_end es
    end_of-map text_end [] = refl
    end_of-map text_end (e ∷ es) = elim (kept e) [
      | inl begins ↦ rw (kind e, begins, end_of-map text_end es) refl
      | inr whole ↦ rw (mark_at-map e es, end_of-map text_end es, whole) refl
    ]

    -- a range of a header ends at the same entry
    end_number-map : (p : ℕ) (es : List Named) → end_number p (map h es) ≡ end_number p es
    end_number-map p es = rw (closing-map h in_headers in_headers-same es 0) refl

    -- marks of headers are the same without their values
    header_at-map : (p past : ℕ) (e : Named) → map unvalued (header_at p past (h e)) ≡ map unvalued (header_at p past e)
    header_at-map p past e = elim (kept e) [ inl begins ↦ rw (kind e, name e, begins) refl | inr whole ↦ rw whole refl ]

    headers_from-map : (p : ℕ) (es : List Named) → map unvalued (headers_from p (map h es)) ≡ map unvalued (headers_from p es)
    headers_from-map p [] = refl
    headers_from-map p (e ∷ es) =
        map-append unvalued (header_at p (end_number (p + 1) (map h es)) (h e)) (headers_from (p + 1) (map h es))
        ∙ ap (λ n. map unvalued (header_at p n (h e)) ++ map unvalued (headers_from (p + 1) (map h es))) (end_number-map (p + 1) es)
        ∙ ap (λ hs. hs ++ map unvalued (headers_from (p + 1) (map h es))) (header_at-map p (end_number (p + 1) es) e)
        ∙ ap (λ hs. map unvalued (header_at p (end_number (p + 1) es) e) ++ hs) (headers_from-map (p + 1) es)
        ∙ sym (map-append unvalued (header_at p (end_number (p + 1) es) e) (headers_from (p + 1) es))

    -- an entry that begins a unit keeps its value
    start_value : (e : Named) (o : Option Named) → mark_at e o ≡ Start → (h e).value ≡ e.value
    start_value e o starts = elim (kept e) [ inl begins ↦ absurd (no_start e o begins starts) | inr whole ↦ rw whole refl ]

    -- the unit that an entry begins is the same without the values of its headers
    span_at-map : (text_end : ℕ) (directory : List ℕ) (p : ℕ) (e : Named) (es : List Named) → mark_at e (next es) ≡ Start
        → bare (span_at text_end directory p (h e) (map h es)) ≡ bare (span_at text_end directory p e es)
    span_at-map text_end directory p e es starts =
        rw (name e, start_value e (next es) starts, end_of-map text_end es, past_of-map es, inside-map es, headers_from-map (p + 1) (inside es)) refl

    -- and so are all units
    units_from-map : (text_end : ℕ) (directory : List ℕ) (p : ℕ) (es : List Named) → map bare (units_from text_end directory p (map h es)) ≡ map bare (units_from text_end directory p es)
    units_from-map text_end directory p [] = refl
    units_from-map text_end directory p (e ∷ es) =
        rw (mark_at-map e es) (same_step (mark_at e (next es)) (span_at text_end directory p (h e) (map h es)) (span_at text_end directory p e es)
        (units_from text_end (directory_of (mark_at e (next es)) (h e).name) (p + 1) (map h es)) (units_from text_end (directory_of (mark_at e (next es)) e.name) (p + 1) es)
        (span_at-map text_end directory p e es) (rw (name e) (units_from-map text_end (directory_of (mark_at e (next es)) e.name) (p + 1) es)))

    -- a stab has the same string
    string_of-map : (e : Named) (es : List Named) → string_of (h e) (map h es) ≡ string_of e es
    string_of-map e es = same_string _ _ _ _ _ _ (kind e) (text_of-map h link_at piece_of link_at-map piece_of-same (e ∷ es)) (name e)

    -- the same stabs go on with one
    continued-map : (back : List Named) (e : Named) → continued (map h back) (h e) ≡ continued back e
    continued-map back e = goes_on-map h link_at piece_of link_at-map piece_of-same back e

    -- the same entries begin a stab
    begins-map : (back : List Named) (e : Named) → (is_plain (h e).kind && not (continued (map h back) (h e))) ≡ (is_plain e.kind && not (continued back e))
    begins-map back e = ap (λ k. is_plain k && not (continued (map h back) (h e))) (kind e) ∙ ap (λ b. is_plain e.kind && not b) (continued-map back e)

    -- and it is the same: an N_BINCL begins none
    stab_at-map : (back : List Named) (p : ℕ) (e : Named) (es : List Named) → stab_at (map h back) p (h e) (map h es) ≡ stab_at back p e es
    stab_at-map back p e es = elim (kept e) [
      | inl begins ↦ rw (kind e, begins) refl
      | inr whole ↦ same_stab _ _ _ _ p _ _ _ _ (begins-map back e) whole (file_in-map back 0) (string_of-map e es)
    ]

    stabs_from-map : (back : List Named) (p : ℕ) (es : List Named) → stabs_from (map h back) p (map h es) ≡ stabs_from back p es
    stabs_from-map back p [] = refl
    stabs_from-map back p (e ∷ es) = same_stabs _ _ _ _ _ _ (kind e) (stab_at-map back p e es) (stabs_from-map (e ∷ back) (p + 1) es)

    -- a unit has the same stabs
    stabs_of-map : (es : List Named) (span : UnitSpan) → stabs_of (map h es) span ≡ stabs_of es span
    stabs_of-map es span = rw (drop-map h (span.first + 1) es) (stabs_from-map [] (span.first + 1) (drop (span.first + 1) es))

-- ---- spans that are the same without the values of their headers

-- header marks keep their names
unvalued-names : (marks : List HeaderMark) → map header_name (map unvalued marks) ≡ map header_name marks
unvalued-names [] = refl
unvalued-names (mark ∷ marks) = ap (λ names. mark.name ∷ names) (unvalued-names marks)

-- the unit of a span is that of the span whose marks have no values
bare-unit : (span : UnitSpan) (items : List Filed) → unit_of (bare span) items ≡ unit_of span items
bare-unit span items = rw (unvalued-names span.headers) refl

-- lists are the same where their first items are and those after
same_cons : {A : Type 0} (x y : A) (xs ys : List A) → (x ∷ xs) ≡ (y ∷ ys) → (x ≡ y) × (xs ≡ ys)
same_cons x y xs ys same = (cc, cc)

module _ (es fs : List Named) (stabs : (span : UnitSpan) → stabs_of es span ≡ stabs_of fs span) where
  -- they have the same stabs
  bare-stabs : (s t : UnitSpan) → bare s ≡ bare t → stabs_of es s ≡ stabs_of fs t
  bare-stabs s t same = stabs s ∙ ap (stabs_of fs) same

  -- and the same unit
  bare-is_unit : (s t : UnitSpan) (unit : Unit) → bare s ≡ bare t → IsUnitOf es s unit → IsUnitOf fs t unit
  bare-is_unit s t unit same made = record {
    items = made.items;
    read = subst (λ ss. AreRead ss made.items) (bare-stabs s t same) made.read;
    is = made.is ∙ sym (bare-unit s made.items) ∙ ap (λ z. unit_of z made.items) same ∙ bare-unit t made.items;
  }

  -- or the same fault of a string
  bare-fault : (s t : UnitSpan) (f : Fault) → bare s ≡ bare t → UnitFault es s f → UnitFault fs t f
  bare-fault s t f same told = subst (λ ss. FirstFault ss f) (bare-stabs s t same) told

  -- so have all of them
  bare-units : (ss ts : List UnitSpan) (units : List Unit) → map bare ss ≡ map bare ts → AreUnitsOf es ss units → AreUnitsOf fs ts units
  bare-units [] [] units same are = are
  bare-units [] (t ∷ ts) units same are = absurd cc
  bare-units (s ∷ ss) [] units same are = absurd cc
  bare-units (s ∷ ss) (t ∷ ts) [] same are = are
  bare-units (s ∷ ss) (t ∷ ts) (unit ∷ units) same are =
      let both = same_cons (bare s) (bare t) (map bare ss) (map bare ts) same in
      (bare-is_unit s t unit both.0 are.0, bare-units ss ts units both.1 are.1)

  -- or the same first fault
  bare-faults : (ss ts : List UnitSpan) (f : Fault) → map bare ss ≡ map bare ts → SpansFault es ss f → SpansFault fs ts f
  bare-faults [] [] f same told = told
  bare-faults [] (t ∷ ts) f same told = absurd told
  bare-faults (s ∷ ss) [] f same told = absurd cc
  bare-faults (s ∷ ss) (t ∷ ts) f same told =
      let both = same_cons (bare s) (bare t) (map bare ss) (map bare ts) same in
      elim told [
        | inl here ↦ inl (bare-fault s t f both.0 here)
        | inr later ↦ inr (later.0, bare-is_unit s t later.0 both.0 later.1, bare-faults ss ts f both.1 later.2)
      ]

-- ---- units and faults of two lists

-- they have no fault of an outline, or the same
same_outline : (marks : Marks) (es fs : List Named) (f : Option Fault) → map forgotten es ≡ map forgotten fs → OutlineFault marks es f → OutlineFault marks fs f
same_outline marks es fs f same told =
    let first = first_told-map forgotten (outline_tell marks) (outline_tell-map forgotten kept_kind kept_name marks) [] 0 in
    outline_first marks fs f (one_fault marks es f (first_told (outline_tell marks) [] 0 es) told (first_of_all (outline_tell marks) es)
    ∙ sym (first es) ∙ ap (first_told (outline_tell marks) [] 0) same ∙ first fs)

-- their units stand in the same places
same_spans : (text_end : ℕ) (es fs : List Named) → map forgotten es ≡ map forgotten fs → map bare (units_of text_end es) ≡ map bare (units_of text_end fs)
same_spans text_end es fs same =
    let spans = units_from-map forgotten kept_kind kept_name kept text_end [] 0 in
    sym (spans es) ∙ ap (λ zs. map bare (units_of text_end zs)) same ∙ spans fs

-- with the same stabs
same_stabs_of : (es fs : List Named) → map forgotten es ≡ map forgotten fs → (span : UnitSpan) → stabs_of es span ≡ stabs_of fs span
same_stabs_of es fs same span =
    let stabs : (zs : List Named) → stabs_of (map forgotten zs) span ≡ stabs_of zs span = λ zs. stabs_of-map forgotten kept_kind kept_name kept zs span in
    sym (stabs es) ∙ ap (λ zs. stabs_of zs span) same ∙ stabs fs

-- lists that differ in values of N_BINCL alone have the same units
pub same_units : (text_end : ℕ) (es fs : List Named) (units : List Unit) → map forgotten es ≡ map forgotten fs → AreUnits text_end es units → AreUnits text_end fs units
same_units text_end es fs units same are = record {
  no_fault = same_outline Object es fs None same are.no_fault;
  are = bare-units es fs (same_stabs_of es fs same) (units_of text_end es) (units_of text_end fs) units (same_spans text_end es fs same) are.are;
}

-- and the same faults
pub same_faults : (text_end : ℕ) (es fs : List Named) (f : Fault) → map forgotten es ≡ map forgotten fs → UnitsFault text_end es f → UnitsFault text_end fs f
same_faults text_end es fs f same told = elim told [
  | inl outline ↦ inl (same_outline Object es fs (Some f) same outline)
  | inr string ↦ inr (
    same_outline Object es fs None same string.0,
    bare-faults es fs (same_stabs_of es fs same) (units_of text_end es) (units_of text_end fs) f (same_spans text_end es fs same) string.1,
  )
]
