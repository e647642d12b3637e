-- What several inputs come to: the objects that their texts spell, in order, and these as sources of a link, whose entries have units;
-- or the refusal of the first input that has a fault. This is this project's own.
use Rattle.std.specs.Prelude.{◌≡◌, ◌⊎◌, ℕ, ◌+◌, List, [], ◌∷◌, length, Result, Ok, Err}
use Rattle.st_base.specs.Number.{IsBytes}
use Rattle.st_base.specs.declared.fault.Fault.{Fault}
use Rattle.aout_object.specs.Objects.{ObjectSpells, named_of}
use Rattle.aout_object.specs.Objects.{Contents as Object}
use Rattle.aout_object.specs.Checks.{FileFault}
use Rattle.stab_units.specs.ObjectUnits.{UnitsFault}
use Rattle.aout_link.specs.Sources.{Source, HasUnits}
use Rattle.file_commands.specs.declared.objects.Misfit.{Misfit}
use Rattle.file_commands.specs.declared.outcome.Outcome.{Outcome}
use Rattle.file_commands.specs.Inputs.{name_at}
use Rattle.file_commands.specs.Outcomes.{refused}

-- ---- one behind the other

-- each of the first list comes to one of the second, in order
abbrev pub Each : {A B : Type 0} → (A → B → Type 0) → List A → List B → Type 0
Each Holds [] [] = Unit {0}
Each Holds [] (y ∷ ys) = ⊥
Each Holds (x ∷ xs) [] = ⊥
Each Holds (x ∷ xs) (y ∷ ys) = Holds x y × Each Holds xs ys

-- the first that has a fault, `at` of them standing before; each of those before it comes to something
abbrev pub FirstFault : {A B : Type 0} → (A → B → Type 0) → (A → Fault → Type 0) → ℕ → List A → ℕ → Fault → Type 0
FirstFault Holds Fails at [] place f = ⊥
FirstFault {A} {B} Holds Fails at (x ∷ xs) place f = ((place ≡ at) × Fails x f) ⊎ (((y : B) × Holds x y) × FirstFault Holds Fails (at + 1) xs place f)

-- what all of them come to: something each, or the first fault
abbrev pub ComesTo : {A B : Type 0} → (A → B → Type 0) → (A → Fault → Type 0) → List A → Result (List B) Misfit → Type 0
ComesTo Holds Fails xs (Ok ys) = Each Holds xs ys
ComesTo Holds Fails xs (Err m) = FirstFault Holds Fails 0 xs m.place m.fault

-- what is said on all that they come to; or the refusal of the first that has a fault, the inputs having these names
abbrev pub OnEach : {A B : Type 0} → (A → B → Type 0) → (A → Fault → Type 0) → List (List ℕ) → List A → (List B → Outcome → Type 0) → Outcome → Type 0
OnEach {A} {B} Holds Fails names xs Says o = ((ys : List B) × Each Holds xs ys × Says ys o)
    ⊎ ((place : ℕ) × (f : Fault) × FirstFault Holds Fails 0 xs place f × (o ≡ refused (name_at names place) f))

-- ---- objects

-- the text of a file spells an object
abbrev pub Spells : List ℕ → Object → Type 0
Spells text object = IsBytes text × ObjectSpells object text

-- the text of a file spells none, for this fault
abbrev pub SpellsNone : List ℕ → Fault → Type 0
SpellsNone text f = IsBytes text × FileFault text f

-- what is said on the objects that the texts of files spell, or the refusal of the first that spells none
abbrev pub OnObjects : List (List ℕ) → List (List ℕ) → (List Object → Outcome → Type 0) → Outcome → Type 0
OnObjects names texts Says o = OnEach Spells SpellsNone names texts Says o

-- ---- sources

-- the object as source of a link: its entries are named, and have units
pub record IsSource (object : Object) (source : Source) : Type 0 where
  pub given : source.object ≡ object
  pub parts : source.parts ≡ object.parts
  pub named : source.named ≡ named_of object
  pub units : HasUnits source

-- the entries of the object have no units, and this fault
abbrev pub HasNoUnits : Object → Fault → Type 0
HasNoUnits object f = UnitsFault (object.parts.entry + length object.parts.text) (named_of object) f

-- what is said on objects as sources of a link, or the refusal of the first whose entries have no units
abbrev pub OnSources : List (List ℕ) → List Object → (List Source → Outcome → Type 0) → Outcome → Type 0
OnSources names objects Says o = OnEach IsSource HasNoUnits names objects Says o
