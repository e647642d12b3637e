-- The headers of an object's units are all N_BINCL, the files of a unit's stabs are those of its headers, and the symbols that stabs are
-- read as are shaped.
use Rattle.std.proofs.Common.{◌≡◌, ℕ, zero, suc, ◌+◌, ◌≤◌, ◌⊎◌, inl, inr, Bool, true, false, cond, List, [], ◌∷◌, ◌++◌, length, drop, Option, Some, None, refl, sym, ap, subst, ◌∙◌, arith, eqb-true}
use Rattle.std.specs.Prelude.{◌==◌, ◌&&◌, ◌||◌, not, flat_map}
use Rattle.std.specs.List.{AllByRecursion}
use Rattle.std.proofs.lemmas.List.{length-append}
use Rattle.std.proofs.lemmas.Bool.{true≢false}
use Rattle.st_base.specs.declared.fault.TheConstants.{NO_UNIT, EXCLUDED}
use Rattle.stab_codes.specs.declared.code.TheConstants.{N_SO, N_BINCL, N_EINCL, N_EXCL}
use Rattle.nlist_codec.specs.declared.named.Named.{Named}
use Rattle.stab_symbols.specs.declared.tree.Symbol.{Symbol}
use Rattle.stab_symbols.specs.Shape.{ShapedSymbol}
use Rattle.unit_outlines.specs.declared.outline_types.HeaderMark.{HeaderMark}
use Rattle.unit_outlines.specs.declared.outline_types.UnitSpan.{UnitSpan}
use Rattle.unit_outlines.specs.declared.outline_types.Marks.TheVariants.{Object}
use Rattle.stab_units.specs.declared.unit.ItemText.{ItemText}
use Rattle.stab_units.specs.declared.unit.ItemText.TheVariants as texts
use Rattle.unit_outlines.specs.EntryWords.{next, is_empty, ends_in}
use Rattle.unit_outlines.specs.Nests.{nesting_of, in_headers}
use Rattle.unit_outlines.specs.Runs.{continued}
use Rattle.unit_outlines.specs.Marks.{mark_at, names_source, in_unit, is_header, headers_in, file_step, file_in, is_plain}
use Rattle.unit_outlines.specs.Outlines.{OutlineFault, directory_of, end_number, header_at, headers_from, inside, outline_tell, place_tell, span_at, span_step, units_from, units_of}
use Rattle.stab_units.specs.Units.{Stab, Filed, AreRead, IsRead, IsTextOf, stab_at, stabs_from, stabs_of, symbols_at, symbols_in}
use Rattle.unit_outlines.proofs.UntoldLemmas.{Untold, fault-untold, told-quiet}
use Rattle.header_merge.proofs.FrontLemmas.{all_append, all_cond}

-- ---- no N_EXCL

-- the entry is no N_EXCL
abbrev pub IsNoExcl : Named → Type 0
IsNoExcl e = (e.kind == N_EXCL) ≡ false

-- the header is not excluded
abbrev pub IsOpened : HeaderMark → Type 0
IsOpened h = h.excluded ≡ false

-- none of the headers of the unit is
abbrev pub AreOpened : UnitSpan → Type 0
AreOpened s = AllByRecursion IsOpened s.headers

some_or_other : (b : Bool) (n m : ℕ) → cond b (Some n) (Some m) ≡ None → ⊥
some_or_other true n m none = absurd cc
some_or_other false n m none = absurd cc

-- an N_EXCL in an object is reported
excl_told : (within : Bool) (headers : ℕ) (e : Named) → e.kind ≡ N_EXCL → place_tell Object within headers e ≡ None → ⊥
excl_told within headers e is none =
    some_or_other (not within) NO_UNIT EXCLUDED (sym (ap (λ k. place_tell Object within headers (record e { kind = k })) is) ∙ none)

-- so an entry that is not reported is none
no_excl : (within : Bool) (headers : ℕ) (e : Named) → place_tell Object within headers e ≡ None → IsNoExcl e
no_excl within headers e none = by_case (e.kind == N_EXCL) refl where
  by_case : (b : Bool) → (e.kind == N_EXCL) ≡ b → IsNoExcl e
  by_case true is = absurd (excl_told within headers e (eqb-true e.kind N_EXCL is) none)
  by_case false is = is

no_excls : (back es : List Named) → Untold (outline_tell Object) back es → AllByRecursion IsNoExcl es
no_excls back [] untold = tt
no_excls back (e ∷ es) untold = (no_excl (in_unit back) (headers_in back) e (told-quiet Object back e es untold.0).unit, no_excls (e ∷ back) es untold.1)

-- the header that an entry marks
mark_opened : (b c : Bool) (x y : HeaderMark) (more : List HeaderMark) → x.excluded ≡ false → c ≡ false → AllByRecursion IsOpened more
    → AllByRecursion IsOpened (cond b (x ∷ []) (cond c (y ∷ []) []) ++ more)
mark_opened true c x y more opened none all = (opened, all)
mark_opened false true x y more opened none all = absurd (true≢false none)
mark_opened false false x y more opened none all = all

headers_opened : (p : ℕ) (es : List Named) → AllByRecursion IsNoExcl es → AllByRecursion IsOpened (headers_from p es)
headers_opened p [] all = tt
headers_opened p (e ∷ es) all =
    mark_opened (e.kind == N_BINCL) (e.kind == N_EXCL) (record { name = e.name; first = p; past = end_number (p + 1) es; excluded = false; value = e.value })
    (record { name = e.name; first = p; past = p + 1; excluded = true; value = e.value }) (headers_from (p + 1) es) refl all.0 (headers_opened (p + 1) es all.1)

inside_one : (b : Bool) (e : Named) (es : List Named) → AllByRecursion IsNoExcl (e ∷ es) → AllByRecursion IsNoExcl (cond b [] (e ∷ es))
inside_one true e es all = tt
inside_one false e es all = all

inside_excls : (es : List Named) → AllByRecursion IsNoExcl es → AllByRecursion IsNoExcl (inside es)
inside_excls [] all = tt
inside_excls (e ∷ es) all = inside_one (e.kind == N_SO) e (inside es) (all.0, inside_excls es all.1)

-- an entry begins a unit or none
abbrev OneOrNone : List UnitSpan → UnitSpan → List UnitSpan → Type 0
OneOrNone spans s more = (spans ≡ more) ⊎ (spans ≡ s ∷ more)

one_or_none : (e : Named) (o : Option Named) (s : UnitSpan) (more : List UnitSpan) → OneOrNone (span_step (mark_at e o) s more) s more
one_or_none e o s more = by_case (e.kind == N_SO) (is_empty e.name) (ends_in 47 e.name && names_source o) refl refl refl where
  by_case : (a b d : Bool) → (e.kind == N_SO) ≡ a → is_empty e.name ≡ b → (ends_in 47 e.name && names_source o) ≡ d
      → OneOrNone (span_step (mark_at e o) s more) s more
  by_case false b d h k l = inl (rw h refl)
  by_case true true d h k l = inl (rw (h, k) refl)
  by_case true false true h k l = inl (rw (h, k, l) refl)
  by_case true false false h k l = inr (rw (h, k, l) refl)

-- what holds of a unit and of those after it
all_step : (P : UnitSpan → Type 0) (e : Named) (o : Option Named) (s : UnitSpan) (more : List UnitSpan) → P s → AllByRecursion P more
    → AllByRecursion P (span_step (mark_at e o) s more)
all_step P e o s more one all = by_case (one_or_none e o s more) where
  by_case : OneOrNone (span_step (mark_at e o) s more) s more → AllByRecursion P (span_step (mark_at e o) s more)
  by_case (inl is) = subst (AllByRecursion P) (sym is) all
  by_case (inr is) = subst (AllByRecursion P) (sym is) (one, all)

units_opened : (end : ℕ) (directory : List ℕ) (p : ℕ) (es : List Named) → AllByRecursion IsNoExcl es → AllByRecursion AreOpened (units_from end directory p es)
units_opened end directory p [] all = tt
units_opened end directory p (e ∷ es) all =
    all_step AreOpened e (next es) (span_at end directory p e es) (units_from end (directory_of (mark_at e (next es)) e.name) (p + 1) es)
    (headers_opened (p + 1) (inside es) (inside_excls es all.1)) (units_opened end (directory_of (mark_at e (next es)) e.name) (p + 1) es all.1)

-- no header of an object without a fault is excluded
pub all_opened : (text_end : ℕ) (entries : List Named) → OutlineFault Object entries None → AllByRecursion AreOpened (units_of text_end entries)
all_opened text_end entries none = units_opened text_end [] 0 entries (no_excls [] entries (fault-untold Object entries none))

-- ---- files of stabs

-- the file of a stab is at most this
abbrev pub IsBelow : ℕ → Stab → Type 0
IsBelow n s = s.file ≤ n

module _ (e : Named) (number headers : ℕ) (outer : ℕ → ℕ) (more : headers ≤ number) (low : (n : ℕ) → outer n ≤ headers) where
  step_low : (a b c : Bool) (ends : ℕ) → (e.kind == N_BINCL) ≡ a → (e.kind == N_EINCL) ≡ b → (e.kind == N_SO) ≡ c
      → file_step (in_headers e) ends number outer ≤ number
  step_low true b c zero h k l = let is : file_step (in_headers e) zero number outer ≡ number = rw h refl in omega (arith, is)
  step_low true b c (suc ends) h k l = let is : file_step (in_headers e) (suc ends) number outer ≡ outer ends = rw h refl in omega (arith, is, low ends, more)
  step_low false true c ends h k l = let is : file_step (in_headers e) ends number outer ≡ outer (suc ends) = rw (h, k) refl in omega (arith, is, low (suc ends), more)
  step_low false false true ends h k l = let is : file_step (in_headers e) ends number outer ≡ 0 = rw (h, k, l) refl in omega (arith, is)
  step_low false false false ends h k l = let is : file_step (in_headers e) ends number outer ≡ outer ends = rw (h, k, l) refl in omega (arith, is, low ends, more)

one_more_header : (b : Bool) (n : ℕ) → n ≤ cond b (n + 1) n
one_more_header true n = omega arith
one_more_header false n = omega arith

-- the file after entries is one of their headers, or 0
file_low : (back : List Named) (ends : ℕ) → file_in back ends ≤ headers_in back
file_low [] ends = omega arith
file_low (e ∷ back) ends = by_case (e.kind == N_SO) refl (λ n. file_low back n) where
  by_case : (b : Bool) → (e.kind == N_SO) ≡ b → ((n : ℕ) → file_in back n ≤ headers_in back) → file_in (e ∷ back) ends ≤ headers_in (e ∷ back)
  by_case true is low =
      let none : file_in (e ∷ back) ends ≡ 0 = ap (λ k. file_step (nesting_of N_BINCL N_EINCL k) ends (headers_in (e ∷ back)) (file_in back)) (eqb-true e.kind N_SO is) in
      omega (arith, none)
  by_case false is low =
      let same : headers_in (e ∷ back) ≡ cond (is_header e.kind) (headers_in back + 1) (headers_in back) =
      ap (λ b. cond b 0 (cond (is_header e.kind) (headers_in back + 1) (headers_in back))) is in
      let more = one_more_header (is_header e.kind) (headers_in back) in
      step_low e (headers_in (e ∷ back)) (headers_in back) (file_in back) (omega (arith, same, more)) low (e.kind == N_BINCL) (e.kind == N_EINCL) (e.kind == N_SO) ends refl refl refl

-- an entry that is no N_SO marks as many headers as it is
as_many : (b c : Bool) (n : ℕ) (x y : HeaderMark) → cond (b || c) (n + 1) n ≡ n + length (cond b (x ∷ []) (cond c (y ∷ []) []))
as_many true c n x y = omega arith
as_many false true n x y = omega arith
as_many false false n x y = omega arith

stabs_below : (back : List Named) (p q n : ℕ) (es : List Named) → headers_in back + length (headers_from q (inside es)) ≤ n
    → AllByRecursion (IsBelow n) (stabs_from back p es)
stabs_below back p q n [] low = tt
stabs_below back p q n (e ∷ es) low = by_case (e.kind == N_SO) refl (λ l. stabs_below (e ∷ back) (p + 1) (q + 1) n es l) where
  by_case : (b : Bool) → (e.kind == N_SO) ≡ b
      → (headers_in (e ∷ back) + length (headers_from (q + 1) (inside es)) ≤ n → AllByRecursion (IsBelow n) (stabs_from (e ∷ back) (p + 1) es))
      → AllByRecursion (IsBelow n) (cond b [] (stab_at back p e es ++ stabs_from (e ∷ back) (p + 1) es))
  by_case true is later = tt
  by_case false is later =
      let mark : List HeaderMark = header_at q (end_number (q + 1) (inside es)) e in
      let here : headers_in (e ∷ back) ≡ headers_in back + length mark =
      ap (λ b. cond b 0 (cond (is_header e.kind) (headers_in back + 1) (headers_in back))) is
      ∙ as_many (e.kind == N_BINCL) (e.kind == N_EXCL) (headers_in back) (record { name = e.name; first = q; past = end_number (q + 1) (inside es); excluded = false; value = e.value })
      (record { name = e.name; first = q; past = q + 1; excluded = true; value = e.value }) in
      let all : length (headers_from q (inside (e ∷ es))) ≡ length mark + length (headers_from (q + 1) (inside es)) =
      ap (λ b. length (headers_from q (cond b [] (e ∷ inside es)))) is ∙ length-append mark (headers_from (q + 1) (inside es)) in
      let file = file_low back 0 in
      all_append (IsBelow n) (stab_at back p e es) (stabs_from (e ∷ back) (p + 1) es)
      (all_cond (IsBelow n) (is_plain e.kind && not (continued back e)) (record { entry = e; place = p; file = file_in back 0; string = _ } ∷ []) (omega (arith, file, low), tt))
      (later (omega (arith, here, all, low)))

drop_next : {A : Type 0} (p : ℕ) (xs : List A) (e : A) (es : List A) → drop p xs ≡ e ∷ es → drop (p + 1) xs ≡ es
drop_next zero [] e es is = absurd cc
drop_next zero (x ∷ xs) e es is = let same : x ∷ xs ≡ e ∷ es = is in cc
drop_next (suc p) [] e es is = absurd cc
drop_next (suc p) (x ∷ xs) e es is = let same : suc p + 1 ≡ suc (p + 1) = omega arith in ap (λ n. drop n (x ∷ xs)) same ∙ drop_next p xs e es is

-- the files of a unit's stabs are those of its headers, or 0
abbrev pub AreBelow : List Named → UnitSpan → Type 0
AreBelow entries s = AllByRecursion (IsBelow (length s.headers)) (stabs_of entries s)

units_below : (entries : List Named) (end : ℕ) (directory : List ℕ) (p : ℕ) (es : List Named) → drop p entries ≡ es
    → AllByRecursion (AreBelow entries) (units_from end directory p es)
units_below entries end directory p [] is = tt
units_below entries end directory p (e ∷ es) is =
    let next_is : drop (p + 1) entries ≡ es = drop_next p entries e es is in
    let here : AllByRecursion (IsBelow (length (headers_from (p + 1) (inside es)))) (stabs_from [] (p + 1) es) =
    stabs_below [] (p + 1) (p + 1) (length (headers_from (p + 1) (inside es))) es (omega arith) in
    all_step (AreBelow entries) e (next es) (span_at end directory p e es) (units_from end (directory_of (mark_at e (next es)) e.name) (p + 1) es)
    (subst (λ z. AllByRecursion (IsBelow (length (headers_from (p + 1) (inside es)))) (stabs_from [] (p + 1) z)) (sym next_is) here)
    (units_below entries end (directory_of (mark_at e (next es)) e.name) (p + 1) es next_is)

-- each unit of a list has the files of its headers alone
pub all_below : (text_end : ℕ) (entries : List Named) → AllByRecursion (AreBelow entries) (units_of text_end entries)
all_below text_end entries = units_below entries text_end [] 0 entries refl

-- ---- what stabs are read as

-- the file of an item is at most this
abbrev pub IsItemBelow : ℕ → Filed → Type 0
IsItemBelow n f = f.file ≤ n

-- items have the files of their stabs
pub items_below : (n : ℕ) (ss : List Stab) (fs : List Filed) → AreRead ss fs → AllByRecursion (IsBelow n) ss → AllByRecursion (IsItemBelow n) fs
items_below n [] [] read low = tt
items_below n [] (f ∷ fs) read low = absurd read
items_below n (s ∷ ss) [] read low = absurd read
items_below n (s ∷ ss) (f ∷ fs) read low = (subst (IsItemBelow n) (sym read.0.is) low.0, items_below n ss fs read.1 low.1)

text_shaped : (carries : Bool) (string : List ℕ) (t : ItemText) → IsTextOf carries string t → AllByRecursion ShapedSymbol (symbols_in t)
text_shaped carries string (texts.Symbol s) is = (is.1.shaped, tt)
text_shaped carries string (texts.Raw text) is = tt

-- the symbols of a file are shaped
abbrev pub AreShaped : List Symbol → Type 0
AreShaped symbols = AllByRecursion ShapedSymbol symbols

item_shaped : (file : ℕ) (s : Stab) (f : Filed) → IsRead s f → AreShaped (symbols_at file f)
item_shaped file s f read = subst (λ (z : Filed). AreShaped (symbols_at file z)) (sym read.is)
    (all_cond ShapedSymbol (s.file == file) (symbols_in read.text) (text_shaped _ s.string read.text read.reads))

pub file_shaped : (file : ℕ) (ss : List Stab) (fs : List Filed) → AreRead ss fs → AreShaped (flat_map (symbols_at file) fs)
file_shaped file [] [] read = tt
file_shaped file [] (f ∷ fs) read = absurd read
file_shaped file (s ∷ ss) [] read = absurd read
file_shaped file (s ∷ ss) (f ∷ fs) read = all_append ShapedSymbol (symbols_at file f) (flat_map (symbols_at file) fs) (item_shaped file s f read.0) (file_shaped file ss fs read.1)
