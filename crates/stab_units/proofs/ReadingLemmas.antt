-- What one more item, and one more entry, do to the files and the body of a unit.
use Rattle.std.proofs.Common.{◌≡◌, ◌≢◌, ℕ, zero, suc, ◌+◌, ◌<◌, inl, inr, Some, Bool, true, false, cond, arith, refl, sym, ap, subst, ◌∙◌, List, [], ◌∷◌, ◌++◌, append-nil, append_assoc, slice_get, slice_set, length, ◌≤◌}
use Rattle.std.specs.Prelude.{◌==◌, ◌&&◌, not, map, flat_map}
use Rattle.std.proofs.lemmas.Grind.{flat_map-append}
use Rattle.st_base.specs.declared.fault.Fault.{Fault}
use Rattle.stab_codes.specs.declared.code.TheConstants.{N_SO}
use Rattle.stab_codes.specs.Table.{carries_symbol}
use Rattle.nlist_codec.specs.declared.named.Named.{Named}
use Rattle.stab_symbols.specs.declared.tree.Symbol.{Symbol}
use Rattle.unit_outlines.specs.declared.outline_types.UnitSpan.{UnitSpan}
use Rattle.stab_units.specs.declared.unit.ItemText.{ItemText}
use Rattle.stab_units.specs.declared.unit.ItemText.TheVariants as texts
use Rattle.stab_units.specs.declared.unit.Item.{Item}
use Rattle.stab_units.specs.declared.unit.HeaderFile.{HeaderFile}
use Rattle.stab_units.specs.declared.unit.Unit.{Unit}
use Rattle.stab_units.specs.declared.reader.Reader.{Reader}
use Rattle.unit_outlines.specs.EntryWords.{next}
use Rattle.unit_outlines.specs.Runs.{goes, link_at, continued}
use Rattle.unit_outlines.specs.Marks.{file_in, is_plain}
use Rattle.stab_units.specs.Units.{Stab, Filed, begun, stab_at, stabs_from, spells, has_symbol, IsTextOf, string_of, item_of, HasFaultOf, AreRead, symbols_in, symbols_at, file_of, files_from, names_of, body_at, MakesUnit, FaultAfter, parsed}
use Rattle.unit_outlines.specs.Sweeps.{Nests}
use Rattle.stab_units.specs.ReadingWalk.{with_symbol, with_text, with_items, goes_to, blank, HasTaken, HasRead, HasReadAll}

-- ---- files

other_file : (n : ℕ) (fs : List Filed) (f : Filed) → (f.file == n) ≡ false → flat_map (symbols_at n) (fs ++ f ∷ []) ≡ flat_map (symbols_at n) fs
other_file n fs f e = flat_map-append (symbols_at n) fs (f ∷ [])
    ∙ ap (λ (z : Bool). flat_map (symbols_at n) fs ++ (cond z (symbols_in f.item.text) [] ++ [])) e ∙ append-nil (flat_map (symbols_at n) fs)

own_file : (n : ℕ) (fs : List Filed) (f : Filed) → (f.file == n) ≡ true → flat_map (symbols_at n) (fs ++ f ∷ []) ≡ flat_map (symbols_at n) fs ++ symbols_in f.item.text
own_file n fs f e = flat_map-append (symbols_at n) fs (f ∷ [])
    ∙ ap (λ (z : Bool). flat_map (symbols_at n) fs ++ (cond z (symbols_in f.item.text) [] ++ [])) e
    ∙ ap (λ (z : List Symbol). flat_map (symbols_at n) fs ++ z) (append-nil (symbols_in f.item.text))

is_other : (m n : ℕ) → m < n → (m == n) ≡ false
is_other m n e = grind arith

is_past : (m n k : ℕ) → m ≡ n + suc k → (m == n) ≡ false
is_past m n k e = grind arith

is_own : (m n : ℕ) → m ≡ n + 0 → (m == n) ≡ true
is_own m n e = grind arith

-- an item of an earlier file changes no later one
later_files : (names : List (List ℕ)) (n : ℕ) (fs : List Filed) (f : Filed) → f.file < n → files_from n names (fs ++ f ∷ []) ≡ files_from n names fs
later_files [] n fs f e = refl
later_files (name ∷ names) n fs f e =
    ap (λ (z : List Symbol). record { name = name; symbols = z } ∷ files_from (n + 1) names (fs ++ f ∷ [])) (other_file n fs f (is_other f.file n e))
    ∙ ap (λ (z : List HeaderFile). file_of n name fs ∷ z) (later_files names (n + 1) fs f (omega arith))

none_with : (k : ℕ) (t : ItemText) → with_text [] k t ≡ []
none_with k (texts.Symbol symbol) = refl
none_with k (texts.Raw text) = refl

first_with : (name : List ℕ) (ss : List Symbol) (rest : List HeaderFile) (t : ItemText)
    → record { name = name; symbols = ss ++ symbols_in t } ∷ rest ≡ with_text (record { name = name; symbols = ss } ∷ rest) 0 t
first_with name ss rest (texts.Symbol symbol) = refl
first_with name ss rest (texts.Raw text) = ap (λ (z : List Symbol). record { name = name; symbols = z } ∷ rest) (append-nil ss)

rest_with : (h : HeaderFile) (rest : List HeaderFile) (k : ℕ) (t : ItemText) → h ∷ with_text rest k t ≡ with_text (h ∷ rest) (suc k) t
rest_with h rest k (texts.Symbol symbol) = refl
rest_with h rest k (texts.Raw text) = refl

-- an item's symbol is put at the end of its file
at_file : (names : List (List ℕ)) (n k : ℕ) (fs : List Filed) (f : Filed) → f.file ≡ n + k → files_from n names (fs ++ f ∷ []) ≡ with_text (files_from n names fs) k f.item.text
at_file [] n k fs f e = sym (none_with k f.item.text)
at_file (name ∷ names) n zero fs f e =
    ap (λ (z : List Symbol). record { name = name; symbols = z } ∷ files_from (n + 1) names (fs ++ f ∷ [])) (own_file n fs f (is_own f.file n e))
    ∙ ap (λ (z : List HeaderFile). record { name = name; symbols = flat_map (symbols_at n) fs ++ symbols_in f.item.text } ∷ z) (later_files names (n + 1) fs f (omega arith))
    ∙ first_with name (flat_map (symbols_at n) fs) (files_from (n + 1) names fs) f.item.text
at_file (name ∷ names) n (suc k) fs f e =
    ap (λ (z : List Symbol). record { name = name; symbols = z } ∷ files_from (n + 1) names (fs ++ f ∷ [])) (other_file n fs f (is_past f.file n k e))
    ∙ ap (λ (z : List HeaderFile). file_of n name fs ∷ z) (at_file names (n + 1) k fs f (omega arith))
    ∙ rest_with (file_of n name fs) (files_from (n + 1) names fs) k f.item.text

-- items in order
all_files : (names : List (List ℕ)) (fs gs : List Filed) → with_items (files_from 0 names fs) gs ≡ files_from 0 names (fs ++ gs)
all_files names fs [] = ap (files_from 0 names) (sym (append-nil fs))
all_files names fs (g ∷ gs) =
    ap (λ (z : List HeaderFile). with_items z gs) (sym (at_file names 0 g.file fs g (omega arith)))
    ∙ all_files names (fs ++ g ∷ []) gs ∙ ap (files_from 0 names) (append_assoc fs (g ∷ []) gs)

-- files without symbols
blank_files : (names : List (List ℕ)) (n : ℕ) → map blank names ≡ files_from n names []
blank_files [] n = refl
blank_files (name ∷ names) n = ap (λ (z : List HeaderFile). blank name ∷ z) (blank_files names (n + 1))

-- ---- a file in a list

-- a file that was taken out is put back with a symbol more
pub put_back : (files : List HeaderFile) (k : ℕ) (x held : HeaderFile) (symbol : Symbol) → slice_get files k ≡ Some held
    → slice_set (slice_set files k x) k (record { name = held.name; symbols = held.symbols ++ symbol ∷ [] }) ≡ with_symbol files k symbol
put_back [] k x held symbol e = absurd cc
put_back (f ∷ files) zero x held symbol e = let s : f ≡ held = cc in rw s refl
put_back (f ∷ files) (suc k) x held symbol e = ap (λ (z : List HeaderFile). f ∷ z) (put_back files k x held symbol e)

-- the same over what the calls tell
pub pushed : (files left new : List HeaderFile) (k : ℕ) (held : HeaderFile) (symbols : List Symbol) (symbol : Symbol) → slice_get files k ≡ Some held
    → left ≡ slice_set files k (blank []) → symbols ≡ held.symbols ++ symbol ∷ [] → new ≡ slice_set left k (record { name = held.name; symbols = symbols })
    → new ≡ with_symbol files k symbol
pushed files left new k held symbols symbol was empty more is =
    is ∙ ap (λ (z : List HeaderFile). slice_set z k (record { name = held.name; symbols = symbols })) empty
    ∙ ap (λ (z : List Symbol). slice_set (slice_set files k (blank [])) k (record { name = held.name; symbols = z })) more
    ∙ put_back files k (blank []) held symbol was

-- there is no such file
pub none_there : (files : List HeaderFile) (k : ℕ) (symbol : Symbol) → length files ≤ k → files ≡ with_symbol files k symbol
none_there [] k symbol e = refl
none_there (f ∷ files) zero symbol e = absurd (omega arith)
none_there (f ∷ files) (suc k) symbol e = ap (λ (z : List HeaderFile). f ∷ z) (none_there files k symbol (omega arith))

-- ---- one stab

-- a fault over what the calls tell
pub same_fault : (a b : Bool) (s t : List ℕ) (p : ℕ) (f : Fault) → a ≡ b → s ≡ t → HasFaultOf a s p f → HasFaultOf b t p f
same_fault a b s t p f x y h = subst (λ (z : Bool). HasFaultOf z t p f) x (subst (λ (z : List ℕ). HasFaultOf a z p f) y h)

-- a string that has a fault is parsed
pub one_step : (carries : Bool) (string : List ℕ) (p : ℕ) (f : Fault) (old new : ℕ) → HasFaultOf carries string p f → new ≡ old + cond (spells carries string) 1 0 → new ≡ old + 1
one_step carries string p f old new fault ticks = ticks ∙ ap (λ (z : Bool). old + cond z 1 0) fault.to_spell

-- an entry that begins a stab stops where its string has a fault
pub stopped : (begins : Bool) (e : Named) (p file : ℕ) (es : List Named) (f : Fault) (old new : ℕ) → begins ≡ true
    → HasFaultOf (carries_symbol e.kind) (string_of e es) p f → new ≡ old + 1 → FaultAfter (begun begins e p file es) f old new
stopped begins e p file es f old new is fault step = subst (λ (z : Bool). FaultAfter (begun z e p file es) f old new) (sym is) (inl (fault, step))

-- an entry that begins a stab is one item
pub taken : (begins : Bool) (e : Named) (p file : ℕ) (es : List Named) (files files_new : List HeaderFile) (body body_new : List Item) (text : ItemText) → begins ≡ true
    → IsTextOf (carries_symbol e.kind) (string_of e es) text → files_new ≡ with_text files file text → body_new ≡ body ++ body_at (record { file = file; item = item_of e text })
    → HasTaken (begun begins e p file es) files files_new body body_new
taken begins e p file es files files_new body body_new text is reads files_are body_is =
    let item : Filed = record { file = file; item = item_of e text } in
    subst (λ (z : Bool). HasTaken (begun z e p file es) files files_new body body_new) (sym is)
    (record {
      items = item ∷ [];
      read = (record { text = text; is = refl; reads = reads }, tt);
      files_are = files_are;
      body_is = body_is ∙ ap (λ (z : List Item). body ++ z) (sym (append-nil (body_at item)));
    })

-- ---- stabs in order

read-append : (ss ts : List Stab) (fs gs : List Filed) → AreRead ss fs → AreRead ts gs → AreRead (ss ++ ts) (fs ++ gs)
read-append [] ts [] gs a b = b
read-append [] ts (f ∷ fs) gs a b = absurd a
read-append (s ∷ ss) ts [] gs a b = absurd a
read-append (s ∷ ss) ts (f ∷ fs) gs a b = (a.0, read-append ss ts fs gs a.1 b)

parsed-append : (ss ts : List Stab) → parsed (ss ++ ts) ≡ parsed ss + parsed ts
parsed-append [] ts = omega arith
parsed-append (s ∷ ss) ts = let h = parsed-append ss ts in omega arith

fault-left : (ss rest : List Stab) (f : Fault) (old new : ℕ) → FaultAfter ss f old new → FaultAfter (ss ++ rest) f old new
fault-left [] rest f old new h = absurd h
fault-left (s ∷ ss) rest f old new h = elim h [ inl a ↦ inl a | inr b ↦ inr (b.0, b.1, fault-left ss rest f (old + cond (has_symbol s) 1 0) new b.2) ]

fault-behind : (done : List Stab) (items : List Filed) (rest : List Stab) (f : Fault) (old new : ℕ) → AreRead done items → FaultAfter rest f (old + parsed done) new → FaultAfter (done ++ rest) f old new
fault-behind [] items rest f old new a h = let e : old + 0 ≡ old = omega arith in subst (λ (z : ℕ). FaultAfter rest f z new) e h
fault-behind (s ∷ done) [] rest f old new a h = absurd a
fault-behind (s ∷ done) (i ∷ items) rest f old new a h =
    let e : old + (cond (has_symbol s) 1 0 + parsed done) ≡ old + cond (has_symbol s) 1 0 + parsed done = omega arith in
    inr (i, a.0, fault-behind done items rest f (old + cond (has_symbol s) 1 0) new a.1 (subst (λ (z : ℕ). FaultAfter rest f z new) e h))

-- ---- one entry

same_going : (back : List Named) (e : Named) → goes_to back (Some e) ≡ continued back e
same_going [] e = refl
same_going (d ∷ back) e = refl

-- no entry was read yet
pub read_start : (names : List (List ℕ)) (start p : ℕ) (left : List Named) (r : Reader) → r.files ≡ map blank names → r.body ≡ [] → r.going ≡ false → Nests [] r.nest
    → HasRead (stabs_from [] p left) names start p left r start
read_start names start p left r files body going nest = record {
  back = [];
  done = [];
  items = [];
  read = tt;
  whole = refl;
  nest = nest;
  going = going;
  files = files ∙ blank_files names 0;
  body = body;
  counted = omega arith;
}

module _ (all : List Stab) (names : List (List ℕ)) (start p : ℕ) (e : Named) (es : List Named) (old : Reader) (steps : ℕ)
    (inside : e.kind ≢ N_SO) (was : HasRead all names start p (e ∷ es) old steps)
    (begins : Bool) (begins_is : begins ≡ is_plain e.kind && not old.going) (file : ℕ) (file_is : file ≡ file_in was.back 0) where
  no_mark : (e.kind == N_SO) ≡ false
  no_mark = grind arith

  abbrev here : List Stab
  here = stab_at was.back p e es

  here_is : begun begins e p file es ≡ here
  here_is = ap (λ (z : Bool). begun z e p file es) (begins_is ∙ ap (λ (z : Bool). is_plain e.kind && not z) (was.going ∙ same_going was.back e))
      ∙ ap (λ (z : ℕ). begun (is_plain e.kind && not (continued was.back e)) e p z es) file_is

  abbrev behind : List Stab
  behind = stabs_from (e ∷ was.back) (p + 1) es

  whole : was.done ++ (here ++ behind) ≡ all
  whole = ap (λ (z : Bool). was.done ++ cond z [] (here ++ behind)) (sym no_mark) ∙ was.whole

  -- past one more entry
  pub read_more : (new : Reader) (steps_new : ℕ) → HasTaken (begun begins e p file es) old.files new.files old.body new.body
      → steps_new ≡ steps + parsed (begun begins e p file es) → Nests (e ∷ was.back) new.nest → new.going ≡ goes (link_at e (next es))
      → HasRead all names start (p + 1) es new steps_new
  read_more new steps_new took ticks nest going =
      let t : HasTaken here old.files new.files old.body new.body = subst (λ (z : List Stab). HasTaken z old.files new.files old.body new.body) here_is took in
      let k : steps_new ≡ steps + parsed here = ticks ∙ ap (λ (z : List Stab). steps + parsed z) here_is in
      record {
        back = e ∷ was.back;
        done = was.done ++ here;
        items = was.items ++ t.items;
        read = read-append was.done here was.items t.items was.read t.read;
        whole = append_assoc was.done here behind ∙ whole;
        nest = nest;
        going = going;
        files = t.files_are ∙ ap (λ (z : List HeaderFile). with_items z t.items) was.files ∙ all_files names was.items t.items;
        body = t.body_is ∙ ap (λ (z : List Item). z ++ flat_map body_at t.items) was.body ∙ sym (flat_map-append body_at was.items t.items);
        counted = let c = was.counted in let a = parsed-append was.done here in omega arith;
      }

  -- its string has a fault
  pub read_fault : (f : Fault) (new : ℕ) → FaultAfter (begun begins e p file es) f steps new → FaultAfter all f start new
  read_fault f new h =
      let g : FaultAfter here f steps new = subst (λ (z : List Stab). FaultAfter z f steps new) here_is h in
      let k : FaultAfter here f (start + parsed was.done) new = subst (λ (z : ℕ). FaultAfter here f z new) was.counted g in
      subst (λ (z : List Stab). FaultAfter z f start new) whole
      (fault-behind was.done was.items (here ++ behind) f start new was.read (fault-left here behind f (start + parsed was.done) new k))

-- no stab is left
module _ (all : List Stab) (span : UnitSpan) (start : ℕ) (r : Reader) (steps : ℕ) (was : HasReadAll all (names_of span) start r steps) where
  done_all : was.read.done ≡ all
  done_all = sym (append-nil was.read.done) ∙ ap (λ (z : List Stab). was.read.done ++ z) (sym (was.none was.read.back)) ∙ was.read.whole

  pub read_all : (unit : Unit) → unit ≡ record { name = span.name; start = span.start; end = span.end; files = r.files; body = r.body } → MakesUnit all span unit
  read_all unit is = record {
    items = was.read.items;
    read = subst (λ (z : List Stab). AreRead z was.read.items) done_all was.read.read;
    is = is ∙ ap (λ (z : List HeaderFile). record { name = span.name; start = span.start; end = span.end; files = z; body = r.body }) was.read.files
        ∙ ap (λ (z : List Item). record { name = span.name; start = span.start; end = span.end; files = files_from 0 (names_of span) was.read.items; body = z }) was.read.body;
  }

  pub counted_all : steps ≡ start + parsed all
  counted_all = was.read.counted ∙ ap (λ (z : List Stab). start + parsed z) done_all

-- at the end of the list, and before an N_SO, no stab is left
pub end_of_list : (back : List Named) (p : ℕ) (left : List Named) → left ≡ [] → stabs_from back p left ≡ []
end_of_list back p left is = ap (stabs_from back p) is

pub end_of_unit : (back : List Named) (p : ℕ) (left : List Named) (e : Named) (es : List Named) → left ≡ e ∷ es → e.kind ≡ N_SO → stabs_from back p left ≡ []
end_of_unit back p left e es is mark =
    let same : (e.kind == N_SO) ≡ true = grind arith in
    ap (stabs_from back p) is ∙ ap (λ (z : Bool). cond z [] (stab_at back p e es ++ stabs_from (e ∷ back) (p + 1) es)) same
