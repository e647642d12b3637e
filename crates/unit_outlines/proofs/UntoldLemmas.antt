-- Lists of which no fault of an outline is told have none where one stands behind the other.
use Rattle.std.proofs.Common.{◌≡◌, ℕ, zero, suc, ◌+◌, ◌≤◌, Option, Some, None, Bool, true, false, cond, arith, refl, sym, ap, ◌∙◌, ltb, List, [], ◌∷◌, ◌++◌}
use Rattle.std.specs.Prelude.{⊤, ◌==◌, ◌&&◌, not, is_some}
use Rattle.st_base.specs.declared.fault.Fault.{Fault}
use Rattle.st_base.specs.declared.fault.TheConstants.{NO_UNIT, OPEN_HEADER, CLOSED_HEADER, BRACKETS}
use Rattle.st_base.specs.Stabs.{is_stab}
use Rattle.stab_codes.specs.declared.code.TheConstants.{N_SO}
use Rattle.nlist_codec.specs.declared.named.Named.{Named}
use Rattle.unit_outlines.specs.declared.kinds.Nesting.{Nesting}
use Rattle.unit_outlines.specs.declared.kinds.Nesting.TheVariants.{Opens, Closes, Parts, Other}
use Rattle.unit_outlines.specs.declared.kinds.Link.TheVariants.{Ends, Broken}
use Rattle.unit_outlines.specs.declared.outline_types.Marks.{Marks}
use Rattle.unit_outlines.specs.EntryWords.{next, is_empty}
use Rattle.unit_outlines.specs.Firsts.{smaller, Telling, told_at, first_told}
use Rattle.unit_outlines.specs.Nests.{one_more, closing_step, level_step, closing, level, nest_step, nest_tell, in_headers, in_blocks}
use Rattle.unit_outlines.specs.Runs.{is_open, same_kind, link_at, piece_of, broken, more_text, long_at, continued, joined}
use Rattle.unit_outlines.specs.Marks.{in_unit, is_header, headers_in}
use Rattle.unit_outlines.specs.Outlines.{place_tell, unit_tell, outline_tell, OutlineFault}
use Rattle.unit_outlines.proofs.FirstLemmas.{first_of_all}
use Rattle.unit_outlines.proofs.Together.{outline_first, one_fault}

-- ---- nothing is told of a list

-- nothing is told of these entries, behind those of `back`
abbrev pub Untold : {E : Type 0} → Telling E → List E → List E → Type 0
Untold tell back [] = ⊤
Untold tell back (e ∷ es) = (tell back e es ≡ None) × Untold tell (e ∷ back) es

pub none_at : (o : Option ℕ) (p : ℕ) (m : Option Fault) → told_at o p m ≡ None → (o ≡ None) × (m ≡ None)
none_at None p m none = (refl, none)
none_at (Some n) p m none = absurd cc

module _ {E : Type 0} (tell : Telling E) where
  -- nothing is told first where nothing is told
  pub untold-first : (back : List E) (p : ℕ) (es : List E) → Untold tell back es → first_told tell back p es ≡ None
  untold-first back p [] untold = refl
  untold-first back p (e ∷ es) untold = rw untold.0 (untold-first (e ∷ back) (p + 1) es untold.1)

  -- and nothing is told where nothing is told first
  pub first-untold : (back : List E) (p : ℕ) (es : List E) → first_told tell back p es ≡ None → Untold tell back es
  first-untold back p [] none = tt
  first-untold back p (e ∷ es) none =
      let both = none_at (tell back e es) p (first_told tell (e ∷ back) (p + 1) es) none in
      (both.0, first-untold (e ∷ back) (p + 1) es both.1)

-- nothing is told of an outline without a fault
pub fault-untold : (marks : Marks) (es : List Named) → OutlineFault marks es None → Untold (outline_tell marks) [] es
fault-untold marks es none = first-untold (outline_tell marks) [] 0 es
    (sym (one_fault marks es None (first_told (outline_tell marks) [] 0 es) none (first_of_all (outline_tell marks) es)))

-- and one of which nothing is told has none
pub untold-fault : (marks : Marks) (es : List Named) → Untold (outline_tell marks) [] es → OutlineFault marks es None
untold-fault marks es untold = outline_first marks es None (sym (untold-first (outline_tell marks) [] 0 es untold))

-- ---- parts of what is told

some_or_other : (b : Bool) (n m : ℕ) → cond b (Some n) (Some m) ≡ None → ⊥
some_or_other true n m none = absurd cc
some_or_other false n m none = absurd cc

-- neither of two is told
pub neither : (a b : Option ℕ) → smaller a b ≡ None → (a ≡ None) × (b ≡ None)
neither None None none = (refl, refl)
neither None (Some b) none = absurd cc
neither (Some a) None none = absurd cc
neither (Some a) (Some b) none = absurd (some_or_other (ltb b a) b a none)

pub both_none : (a b : Option ℕ) → a ≡ None → b ≡ None → smaller a b ≡ None
both_none a b first second = rw (first, second) refl

-- no fault of any sort is told at an entry
pub record IsQuiet (marks : Marks) (back : List Named) (e : Named) (es : List Named) : Type 0 where
  pub unit : unit_tell marks back e es ≡ None
  pub headers : nest_tell in_headers OPEN_HEADER CLOSED_HEADER back e es ≡ None
  pub blocks : nest_tell in_blocks BRACKETS BRACKETS back e es ≡ None
  pub unbroken : broken (link_at e (next es)) ≡ None
  pub short : long_at (continued back e) (joined (e ∷ es)) ≡ None

-- each sort is none where all together are
pub told-quiet : (marks : Marks) (back : List Named) (e : Named) (es : List Named) → outline_tell marks back e es ≡ None → IsQuiet marks back e es
told-quiet marks back e es none =
    let all = neither _ _ none in
    let matches = neither _ _ all.1 in
    let nests = neither _ _ matches.0 in
    let runs = neither _ _ matches.1 in
    record { unit = all.0; headers = nests.0; blocks = nests.1; unbroken = runs.0; short = runs.1 }

-- and all together are none where each sort is
pub quiet-told : (marks : Marks) (back : List Named) (e : Named) (es : List Named) → IsQuiet marks back e es → outline_tell marks back e es ≡ None
quiet-told marks back e es quiet = both_none _ _ quiet.unit (both_none _ _ (both_none _ _ quiet.headers quiet.blocks) (both_none _ _ quiet.unbroken quiet.short))

-- ---- marks that match

one_more-some : (a b : Option ℕ) → (is_some a ≡ true → is_some b ≡ true) → is_some (one_more a) ≡ true → is_some (one_more b) ≡ true
one_more-some None b more some = absurd cc
one_more-some (Some n) None more some = more refl
one_more-some (Some n) (Some m) more some = refl

-- the step to what closes a mark finds one where the rest does
step-some : (s : Nesting) (n : ℕ) (f g : ℕ → Option ℕ) → ((m : ℕ) → is_some (f m) ≡ true → is_some (g m) ≡ true) → is_some (closing_step s n f) ≡ true → is_some (closing_step s n g) ≡ true
step-some Opens n f g more some = one_more-some (f (suc n)) (g (suc n)) (more (suc n)) some
step-some Closes zero f g more some = refl
step-some Closes (suc n) f g more some = one_more-some (f n) (g n) (more n) some
step-some Parts n f g more some = some
step-some Other n f g more some = one_more-some (f n) (g n) (more n) some

-- no fewer are open behind an entry where no fewer are before it
level_step-less : (s : Nesting) (n m : ℕ) → n ≤ m → level_step s n ≤ level_step s m
level_step-less Opens n m less = omega (arith, less)
level_step-less Closes n m less = omega (arith, less)
level_step-less Parts n m less = omega arith
level_step-less Other n m less = less

module _ {E : Type 0} (role : E → Nesting) (unclosed unopened : ℕ) where
  -- a mark that matches does so where it is closed too and no fewer are open before it
  nest_step-less : (s : Nesting) (b c : Bool) (l m : ℕ) → (b ≡ true → c ≡ true) → l ≤ m → nest_step role unclosed unopened s b l ≡ None → nest_step role unclosed unopened s c m ≡ None
  nest_step-less Opens true c l m closed less none = rw (closed refl) refl
  nest_step-less Opens false c l m closed less none = absurd cc
  nest_step-less Closes b c zero m closed less none = absurd cc
  nest_step-less Closes b c (suc l) zero closed less none = absurd (omega (arith, less))
  nest_step-less Closes b c (suc l) (suc m) closed less none = refl
  nest_step-less Parts b c l m closed less none = refl
  nest_step-less Other b c l m closed less none = refl

same_less : (n : ℕ) → n ≤ n
same_less n = omega arith

module _ {E : Type 0} (role : E → Nesting) where
  -- what is closed in a list is closed where more stands behind it
  closing-more : (es fs : List E) (n : ℕ) → is_some (closing role es n) ≡ true → is_some (closing role (es ++ fs) n) ≡ true
  closing-more [] fs n some = absurd cc
  closing-more (e ∷ es) fs n some = step-some (role e) n (closing role es) (closing role (es ++ fs)) (closing-more es fs) some

  -- no fewer are open where more stands before
  level-more : (back before : List E) → level role back ≤ level role (back ++ before)
  level-more [] before = omega arith
  level-more (e ∷ back) before = level_step-less (role e) (level role back) (level role (back ++ before)) (level-more back before)

  module _ (unclosed unopened : ℕ) where
    -- a mark that matches does so where more stands behind its list
    nest-more : (back : List E) (e : E) (es fs : List E) → nest_tell role unclosed unopened back e es ≡ None → nest_tell role unclosed unopened back e (es ++ fs) ≡ None
    nest-more back e es fs none = nest_step-less role unclosed unopened (role e) (is_some (closing role es 0)) (is_some (closing role (es ++ fs) 0)) (level role back) (level role back)
        (closing-more es fs 0) (same_less (level role back)) none

    -- and where more stands before it
    nest-before : (back before : List E) (e : E) (es : List E) → nest_tell role unclosed unopened back e es ≡ None → nest_tell role unclosed unopened (back ++ before) e es ≡ None
    nest-before back before e es none = nest_step-less role unclosed unopened (role e) (is_some (closing role es 0)) (is_some (closing role es 0)) (level role back) (level role (back ++ before))
        (λ closed. closed) (level-more back before) none

-- ---- strings

not_open : (b : Bool) (e : Named) (o : Option Named) → broken (cond b Broken Ends) ≡ None → cond b (same_kind e o) Ends ≡ Ends
not_open true e o none = absurd cc
not_open false e o none = refl

-- a string that does not break at the end of a list ends there
ends : (e : Named) (o : Option Named) → broken (link_at e None) ≡ None → link_at e o ≡ Ends
ends e o none = not_open (is_open e) e o none

-- no string of these entries breaks
abbrev pub Unbroken : List Named → Type 0
Unbroken [] = ⊤
Unbroken (e ∷ es) = (broken (link_at e (next es)) ≡ None) × Unbroken es

-- the string that a list begins with is the same where more stands behind the list
pub joined-more : (e : Named) (es fs : List Named) → Unbroken (e ∷ es) → joined (e ∷ (es ++ fs)) ≡ joined (e ∷ es)
joined-more e [] fs unbroken = rw (ends e (next fs) unbroken.0, ends e None unbroken.0) refl
joined-more e (f ∷ es) fs unbroken = ap (λ text. piece_of e ++ more_text (link_at e (Some f)) text) (joined-more f es fs unbroken.1)

-- a string that does not break does not there
unbroken-more : (e : Named) (es fs : List Named) → broken (link_at e (next es)) ≡ None → broken (link_at e (next (es ++ fs))) ≡ None
unbroken-more e [] fs none = rw (ends e (next fs) none) refl
unbroken-more e (f ∷ es) fs none = none

-- nor is it too long there, if the same entries begin one or fewer
long-before : (c d : Bool) (text : List ℕ) → (d ≡ false → c ≡ false) → long_at c text ≡ None → long_at d text ≡ None
long-before c true text fewer none = refl
long-before c false text fewer none = rw (fewer refl) at none

-- an entry that goes on with the string before it does so where more stands before that
pub continued-before : (back before : List Named) (e : Named) → continued (back ++ before) e ≡ false → continued back e ≡ false
continued-before [] before e ended = refl
continued-before (d ∷ back) before e ended = ended

-- ---- units

-- in a unit, and behind as many headers
abbrev IsAsFar : (within : Bool) (headers : ℕ) (within_more : Bool) (headers_more : ℕ) → Type 0
IsAsFar within headers within_more headers_more = within ≡ true → (within_more ≡ true) × (headers_more ≡ headers)

-- so it is behind one more entry
step-far : (starts named header within within_more : Bool) (headers headers_more : ℕ) → IsAsFar within headers within_more headers_more
    → IsAsFar (cond starts named within) (cond starts 0 (cond header (headers + 1) headers)) (cond starts named within_more) (cond starts 0 (cond header (headers_more + 1) headers_more))
step-far true named header within within_more headers headers_more far is = (is, refl)
step-far false named header within within_more headers headers_more far is = ((far is).0, rw ((far is).1) refl)

-- in a unit nothing before it is looked at
far-before : (back before : List Named) → IsAsFar (in_unit back) (headers_in back) (in_unit (back ++ before)) (headers_in (back ++ before))
far-before [] before = λ is. absurd cc
far-before (e ∷ back) before = step-far (e.kind == N_SO) (not (is_empty e.name)) (is_header e.kind) (in_unit back) (in_unit (back ++ before)) (headers_in back) (headers_in (back ++ before)) (far-before back before)

-- outside every unit only an entry that is no stab, or an N_SO with a name, is no fault; and it is none in a unit
outside : (a b : Bool) (o : Option ℕ) → cond a None (cond b None (Some NO_UNIT)) ≡ None → cond a None (cond b None o) ≡ None
outside true b o none = refl
outside false true o none = refl
outside false false o none = absurd cc

place-before : (marks : Marks) (within within_more : Bool) (headers headers_more : ℕ) (e : Named) → IsAsFar within headers within_more headers_more
    → place_tell marks within headers e ≡ None → place_tell marks within_more headers_more e ≡ None
place-before marks true within_more headers headers_more e far none = rw ((far refl).0, (far refl).1) none
place-before marks false within_more headers headers_more e far none = outside (not (is_stab e.kind)) ((e.kind == N_SO) && not (is_empty e.name)) _ none

-- ---- one list behind the other

-- nothing is told at an entry where more stands behind its list
quiet-more : (marks : Marks) (back : List Named) (e : Named) (es fs : List Named) → Unbroken es → IsQuiet marks back e es → IsQuiet marks back e (es ++ fs)
quiet-more marks back e es fs unbroken quiet = record {
  unit = quiet.unit;
  headers = nest-more in_headers OPEN_HEADER CLOSED_HEADER back e es fs quiet.headers;
  blocks = nest-more in_blocks BRACKETS BRACKETS back e es fs quiet.blocks;
  unbroken = unbroken-more e es fs quiet.unbroken;
  short = ap (long_at (continued back e)) (joined-more e es fs (quiet.unbroken, unbroken)) ∙ quiet.short;
}

-- nor where more stands before it
quiet-before : (marks : Marks) (back before : List Named) (e : Named) (es : List Named) → IsQuiet marks back e es → IsQuiet marks (back ++ before) e es
quiet-before marks back before e es quiet = record {
  unit = place-before marks (in_unit back) (in_unit (back ++ before)) (headers_in back) (headers_in (back ++ before)) e (far-before back before) quiet.unit;
  headers = nest-before in_headers OPEN_HEADER CLOSED_HEADER back before e es quiet.headers;
  blocks = nest-before in_blocks BRACKETS BRACKETS back before e es quiet.blocks;
  unbroken = quiet.unbroken;
  short = long-before (continued back e) (continued (back ++ before) e) (joined (e ∷ es)) (continued-before back before e) quiet.short;
}

module _ (marks : Marks) where
  -- no string of a list breaks of which nothing is told
  pub untold-unbroken : (back es : List Named) → Untold (outline_tell marks) back es → Unbroken es
  untold-unbroken back [] untold = tt
  untold-unbroken back (e ∷ es) untold = ((told-quiet marks back e es untold.0).unbroken, untold-unbroken (e ∷ back) es untold.1)

  -- nothing is told of a list where more stands before it
  untold-before : (back before es : List Named) → Untold (outline_tell marks) back es → Untold (outline_tell marks) (back ++ before) es
  untold-before back before [] untold = tt
  untold-before back before (e ∷ es) untold =
      (quiet-told marks (back ++ before) e es (quiet-before marks back before e es (told-quiet marks back e es untold.0)), untold-before (e ∷ back) before es untold.1)

  -- nothing is told of lists one behind the other, where nothing is told of each
  pub untold-append : (back es fs : List Named) → Untold (outline_tell marks) back es → Untold (outline_tell marks) [] fs → Untold (outline_tell marks) back (es ++ fs)
  untold-append back [] fs first second = untold-before [] back fs second
  untold-append back (e ∷ es) fs first second = (
    quiet-told marks back e (es ++ fs) (quiet-more marks back e es fs (untold-unbroken (e ∷ back) es first.1) (told-quiet marks back e es first.0)),
    untold-append (e ∷ back) es fs first.1 second,
  )

-- outlines without a fault have none where one stands behind the other
pub outline-append : (marks : Marks) (es fs : List Named) → OutlineFault marks es None → OutlineFault marks fs None → OutlineFault marks (es ++ fs) None
outline-append marks es fs first second = untold-fault marks (es ++ fs) (untold-append marks [] es fs (fault-untold marks es first) (fault-untold marks fs second))
