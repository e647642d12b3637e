-- One walk over the entries of a unit tells which files have own entries that are N_LSYM entries with a symbol; and with the symbols of
-- a file this tells whether its own entries all belong to N_LSYM type symbols.
use Rattle.std.proofs.Common.{◌≡◌, ◌≢◌, ℕ, ◌+◌, ◌<◌, Bool, true, false, cond, not, arith, refl, sym, ap, subst, ◌∙◌, Some, List, [], ◌∷◌, ◌++◌, length, get_or, below_more}
use Rattle.std.specs.Prelude.{◌==◌, ◌&&◌, ◌||◌, flat_map}
use Rattle.std.specs.List.{list_all, slice_index_or}
use Rattle.std.proofs.lemmas.List.Folds.{list_all-append}
use Rattle.std.proofs.lemmas.Bool.{ne_eqb}
use Rattle.std.proofs.Math.Seq.{get_or-append_seam}
use Rattle.std.proofs.Math.ListN.{get_or-append, length-append}
use Rattle.stab_codes.specs.declared.code.TheConstants.{N_SO, N_LSYM}
use Rattle.stab_codes.specs.Table.{carries_symbol}
use Rattle.nlist_codec.specs.declared.named.Named.{Named}
use Rattle.stab_units.specs.declared.unit.ItemText.{ItemText}
use Rattle.stab_units.specs.declared.unit.ItemText.TheVariants as texts
use Rattle.unit_outlines.specs.EntryWords.{next, is_empty}
use Rattle.unit_outlines.specs.Runs.{goes, continued, link_at}
use Rattle.unit_outlines.specs.Marks.{file_in, is_plain}
use Rattle.stab_units.specs.Units.{Stab, Filed, AreRead, IsRead, IsTextOf, begun, has_symbol, is_type, is_type_symbol, stab_at, stabs_from, symbols_at, symbols_in}
use Rattle.unit_outlines.specs.Sweeps.{Nests}
use Rattle.stab_units.specs.ReadingWalk.{goes_to}
use Rattle.unit_outlines.specs.declared.nest.Nest.{Nest}
use Rattle.bincl_match.specs.declared.owning.Owners.{Owners}
use Rattle.bincl_match.specs.Ranges.{is_typed_at, is_typed}
use Rattle.bincl_match.specs.Owning.{AreTrue, HasWalked, HasWalkedAll, is_ready_at, is_ready_entry, is_ready_in, names_type}

-- ---- tests

-- with a test that passes
and_true : (a : Bool) → (a && true) ≡ a
and_true true = refl
and_true false = refl

-- with one that fails
and_false : (a : Bool) → (a && false) ≡ false
and_false true = refl
and_false false = refl

-- three tests, from either end
and_assoc : (a b c : Bool) → ((a && b) && c) ≡ (a && (b && c))
and_assoc true b c = refl
and_assoc false b c = refl

-- a choice of two that are one
same_cond : (b : Bool) → cond b true true ≡ true
same_cond true = refl
same_cond false = refl

-- ---- flags

-- one flag more is set
pub true_more : (n : ℕ) (flags new : List Bool) → new ≡ flags ++ true ∷ [] → AreTrue n flags → AreTrue (n + 1) new
true_more n flags new is old =
    let more : AreTrue (n + 1) (flags ++ true ∷ []) = record {
      long = length-append flags (true ∷ []) ∙ omega (arith, old.long);
      set = below_more (λ i. get_or (flags ++ true ∷ []) i false ≡ true) n
          (λ i lt. get_or-append flags (true ∷ []) false i (omega (arith, old.long)) ∙ old.set i lt)
          (ap (λ (z : ℕ). get_or (flags ++ true ∷ []) z false) (sym old.long) ∙ get_or-append_seam flags true [] false);
    } in
    subst (λ (z : List Bool). AreTrue (n + 1) z) (sym is) more

-- ---- the walk

-- whether an entry goes on with the one before it, by the nearest entry or by all
same_going : (back : List Named) (e : Named) → goes_to back (Some e) ≡ continued back e
same_going [] e = refl
same_going (d ∷ back) e = refl

-- the stab that an entry begins, if it begins one, is ready
ready_begun : (b : Bool) (e : Named) (p file : ℕ) (es : List Named) (f : ℕ) → is_ready_in f (begun b e p file es) ≡ cond (file == f) (not b || is_ready_entry e es) true
ready_begun true e p file es f = and_true (cond (file == f) (is_ready_entry e es) true)
ready_begun false e p file es f = sym (same_cond (file == f))

-- an entry that is no N_SO begins a stab or none, before those after it
behind_entry : (back : List Named) (p : ℕ) (e : Named) (es : List Named) → e.kind ≢ N_SO → stabs_from back p (e ∷ es) ≡ stab_at back p e es ++ stabs_from (e ∷ back) (p + 1) es
behind_entry back p e es inside =
    ap (λ (z : Bool). cond z [] (stab_at back p e es ++ stabs_from (e ∷ back) (p + 1) es)) (ne_eqb e.kind N_SO inside)

-- before the first entry
pub walk_start : (files : ℕ) (nest : Nest) (ready : List Bool) (p : ℕ) (left : List Named) → Nests [] nest → AreTrue files ready
    → HasWalked (λ file. is_ready_in file (stabs_from [] p left)) files left (record { nest = nest; going = false; ready = ready })
walk_start files nest ready p left n set = record {
  back = [];
  place = p;
  nest = n;
  going = refl;
  count = set.long;
  each = λ f lt. ap (λ (z : Bool). z && is_ready_in f (stabs_from [] p left)) (set.set f lt);
}

-- past an entry
pub walk_more : (all : ℕ → Bool) (files : ℕ) (e : Named) (es : List Named) (o : Owners) (begins ready : Bool) (file : ℕ) (nest : Nest) (going : Bool) (flags : List Bool) (was : HasWalked all files (e ∷ es) o)
    → e.kind ≢ N_SO → begins ≡ (is_plain e.kind && not o.going) → file ≡ file_in was.back 0 → ready ≡ (not begins || is_ready_entry e es) → length flags ≡ length o.ready
    → ((f : ℕ) → f < length o.ready → slice_index_or flags f false ≡ (slice_index_or o.ready f false && cond (file == f) ready true))
    → Nests (e ∷ was.back) nest → going ≡ goes (link_at e (next es)) → HasWalked all files es (record { nest = nest; going = going; ready = flags })
walk_more all files e es o begins ready file nest going flags was inside begin_is file_is ready_is long new nests goes_is = record {
  back = e ∷ was.back;
  place = was.place + 1;
  nest = nests;
  going = goes_is;
  count = long ∙ was.count;
  each = λ f lt.
      let rest = is_ready_in f (stabs_from (e ∷ was.back) (was.place + 1) es) in
      let b : begins ≡ (is_plain e.kind && not (continued was.back e)) = begin_is ∙ ap (λ (z : Bool). is_plain e.kind && not z) (was.going ∙ same_going was.back e) in
      let here : cond (file == f) ready true ≡ is_ready_in f (stab_at was.back was.place e es) =
      ap (λ (z : Bool). cond (file == f) z true) (ready_is ∙ ap (λ (z : Bool). not z || is_ready_entry e es) b)
      ∙ ap (λ (z : ℕ). cond (z == f) (not (is_plain e.kind && not (continued was.back e)) || is_ready_entry e es) true) file_is
      ∙ sym (ready_begun (is_plain e.kind && not (continued was.back e)) e was.place (file_in was.back 0) es f) in
      ap (λ (z : Bool). z && rest) (new f (subst (λ (z : ℕ). f < z) (sym was.count) lt) ∙ ap (λ (z : Bool). slice_index_or o.ready f false && z) here)
      ∙ and_assoc (slice_index_or o.ready f false) (is_ready_in f (stab_at was.back was.place e es)) rest
      ∙ ap (λ (z : Bool). slice_index_or o.ready f false && z) (sym (list_all-append (is_ready_at f) (stab_at was.back was.place e es) (stabs_from (e ∷ was.back) (was.place + 1) es)))
      ∙ ap (λ (z : List Stab). slice_index_or o.ready f false && is_ready_in f z) (sym (behind_entry was.back was.place e es inside)) ∙ was.each f lt;
}

-- after the last entry of the unit
pub walk_end : (all : ℕ → Bool) (files : ℕ) (left : List Named) (o : Owners) → ((back : List Named) (p : ℕ) → stabs_from back p left ≡ []) → HasWalked all files left o → HasWalkedAll all files o
walk_end all files left o none was = record {
  count = was.count;
  each = λ f lt. sym (and_true (slice_index_or o.ready f false))
      ∙ ap (λ (z : List Stab). slice_index_or o.ready f false && is_ready_in f z) (sym (none was.back was.place)) ∙ was.each f lt;
}

-- no entry is left
pub none_left : (back : List Named) (p : ℕ) (left : List Named) → left ≡ [] → stabs_from back p left ≡ []
none_left back p left is = ap (stabs_from back p) is

-- an N_SO ends the unit
pub unit_ends : (back : List Named) (p : ℕ) (left : List Named) (e : Named) (es : List Named) → left ≡ e ∷ es → e.kind ≡ N_SO → stabs_from back p left ≡ []
unit_ends back p left e es is ends =
    ap (stabs_from back p) is ∙ ap (λ (z : ℕ). cond (z == N_SO) [] (stab_at back p e es ++ stabs_from (e ∷ back) (p + 1) es)) ends

-- ---- type symbols

-- what a file's stab is read as
typed_text : (k b : Bool) (t : ItemText) (c : Bool) (string : List ℕ) → b ≡ (c && not (is_empty string)) → IsTextOf c string t → (k && is_type t) ≡ ((k && b) && list_all names_type (symbols_in t))
typed_text k b (texts.Symbol s) c string is reads =
    let h : b ≡ true = is ∙ reads.0 in
    ap (λ (z : Bool). k && z) (sym (and_true (is_type_symbol s.descriptor))) ∙ sym (and_assoc k true (is_type_symbol s.descriptor && true))
    ∙ ap (λ (z : Bool). (k && z) && (is_type_symbol s.descriptor && true)) (sym h)
typed_text k b (texts.Raw text) c string is reads =
    let h : b ≡ false = is ∙ reads.0 in
    and_false k ∙ sym (and_true (k && b) ∙ ap (λ (z : Bool). k && z) h ∙ and_false k)

-- the same of a stab that may be of another file
typed_at : (b k h : Bool) (t : ItemText) → (k && is_type t) ≡ ((k && h) && list_all names_type (symbols_in t))
    → cond b (k && is_type t) true ≡ (cond b (k && h) true && list_all names_type (cond b (symbols_in t) []))
typed_at true k h t e = e
typed_at false k h t e = refl

-- what a stab is read as is an N_LSYM type symbol where the stab is ready and its symbol names a type
typed_read : (f : ℕ) (s : Stab) (i : Filed) → IsRead s i → is_typed_at f i ≡ (is_ready_at f s && list_all names_type (symbols_at f i))
typed_read f s i r = subst (λ (z : Filed). is_typed_at f z ≡ (is_ready_at f s && list_all names_type (symbols_at f z))) (sym r.is)
    (typed_at (s.file == f) (s.entry.kind == N_LSYM) (has_symbol s) r.text (typed_text (s.entry.kind == N_LSYM) (has_symbol s) r.text (carries_symbol s.entry.kind) s.string refl r.reads))

-- four tests in another order
shuffled : (a b c d : Bool) → ((a && b) && (c && d)) ≡ ((a && c) && (b && d))
shuffled true true c d = refl
shuffled true false true d = refl
shuffled true false false d = refl
shuffled false b c d = refl

-- the own entries of a file all belong to N_LSYM type symbols where they are N_LSYM entries with a symbol and the file's symbols all name types
pub typed_items : (f : ℕ) (ss : List Stab) (fs : List Filed) → AreRead ss fs → is_typed f fs ≡ (is_ready_in f ss && list_all names_type (flat_map (symbols_at f) fs))
typed_items f [] [] r = refl
typed_items f [] (i ∷ fs) r = absurd r
typed_items f (s ∷ ss) [] r = absurd r
typed_items f (s ∷ ss) (i ∷ fs) r =
    ap (λ (z : Bool). z && list_all (is_typed_at f) fs) (typed_read f s i r.0)
    ∙ ap (λ (z : Bool). (is_ready_at f s && list_all names_type (symbols_at f i)) && z) (typed_items f ss fs r.1)
    ∙ shuffled (is_ready_at f s) (list_all names_type (symbols_at f i)) (is_ready_in f ss) (list_all names_type (flat_map (symbols_at f) fs))
    ∙ ap (λ (z : Bool). (is_ready_at f s && is_ready_in f ss) && z) (sym (list_all-append names_type (symbols_at f i) (flat_map (symbols_at f) fs)))
