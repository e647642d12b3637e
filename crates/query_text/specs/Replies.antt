-- Replies: the text that answers a query on a world. This is this project's own.
use Rattle.std.specs.Prelude.{◌≡◌, ℕ, List, [], ◌∷◌, codes, slice_get, Option, Some, None}
use Rattle.stab_units.specs.declared.unit.Unit.{Unit}
use Rattle.type_graph.specs.declared.world.World.{World}
use Rattle.type_graph.specs.Types.{tag_of, typedef_of}
use Rattle.scope_lines.specs.declared.scope.Scope.{Scope}
use Rattle.scope_lines.specs.declared.scope.LineAt.{LineAt}
use Rattle.scope_lines.specs.Scopes.{scope_at}
use Rattle.scope_lines.specs.Lines.{line_at, addresses}
use Rattle.query_text.specs.declared.query.Query.{Query}
use Rattle.query_text.specs.declared.query.Query.TheVariants as queries
use Rattle.query_text.specs.Externals.{external_value}
use Rattle.query_text.specs.UnitLines.{units_text, files_text}
use Rattle.query_text.specs.Listed.{IsListingText}
use Rattle.query_text.specs.ScopeText.{scope_text}
use Rattle.query_text.specs.LineText.{line_text, addresses_text}

-- ---- what is there, and what is not

-- the lines are what is said on a thing that is there; where it is not there, there are none
abbrev pub Tells : {A : Type 0} → Option A → (A → List ℕ → Type 0) → List ℕ → Type 0
Tells None says lines = lines ≡ []
Tells (Some thing) says lines = says thing lines

-- on the unit with this number
abbrev pub OnUnit : World → ℕ → (Unit → List ℕ → Type 0) → List ℕ → Type 0
OnUnit world number says lines = Tells (slice_get world.units number) says lines

-- ---- the lines of a reply

-- of a scope
abbrev pub IsScope : World → Scope → List ℕ → Type 0
IsScope world scope lines = OnUnit world scope.unit (λ unit lines. lines ≡ scope_text (external_value world.externals) unit scope) lines

-- of the line of an address
abbrev pub IsLine : World → LineAt → List ℕ → Type 0
IsLine world found lines = OnUnit world found.unit (λ unit lines. lines ≡ line_text unit found) lines

-- of a query
abbrev pub HasLines : World → Query → List ℕ → Type 0
HasLines world queries.Units lines = lines ≡ units_text world.units
HasLines world (queries.Files number) lines = OnUnit world number (λ unit lines. lines ≡ files_text unit.files) lines
HasLines world (queries.TagNamed number name) lines = OnUnit world number (λ unit. Tells (tag_of unit name) (IsListingText unit)) lines
HasLines world (queries.TypeNamed number name) lines = OnUnit world number (λ unit. Tells (typedef_of unit name) (IsListingText unit)) lines
HasLines world (queries.Number number file n) lines = OnUnit world number (λ unit. IsListingText unit (record { file = file; number = n })) lines
HasLines world (queries.Scope address) lines = Tells (scope_at world address) (IsScope world) lines
HasLines world (queries.Line address) lines = Tells (line_at world address) (IsLine world) lines
HasLines world (queries.Addresses file line) lines = lines ≡ addresses_text (addresses world file line)

-- ---- the reply

-- lines, or the line `none` where there are none
abbrev pub or_none : List ℕ → List ℕ
or_none [] = codes "none\n"
or_none (b ∷ lines) = b ∷ lines

-- the text is the reply to the query
abbrev pub Answers : World → Query → List ℕ → Type 0
Answers world query text = (lines : List ℕ) × HasLines world query lines × (text ≡ or_none lines)
