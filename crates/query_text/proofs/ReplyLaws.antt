-- Every query has one reply on a world, since every key has one listing.
use Rattle.std.proofs.Common.{◌≡◌, ℕ, List, [], Option, Some, None, refl, sym, ap, ◌∙◌}
use Rattle.std.specs.Prelude.{slice_get}
use Rattle.stab_symbols.specs.declared.tree.Key.{Key}
use Rattle.stab_units.specs.declared.unit.Unit.{Unit as OneUnit}
use Rattle.type_graph.specs.declared.world.World.{World}
use Rattle.type_graph.specs.Types.{tag_of, typedef_of}
use Rattle.type_graph.specs.Listings.{IsListing}
use Rattle.scope_lines.specs.Scopes.{scope_at}
use Rattle.scope_lines.specs.Lines.{line_at, addresses}
use Rattle.query_text.specs.declared.query.Query.{Query}
use Rattle.query_text.specs.declared.query.Query.TheVariants as queries
use Rattle.query_text.specs.Externals.{external_value}
use Rattle.query_text.specs.UnitLines.{units_text, files_text}
use Rattle.query_text.specs.Listed.{IsListingText, listing_text}
use Rattle.query_text.specs.ScopeText.{scope_text}
use Rattle.query_text.specs.LineText.{line_text, addresses_text}
use Rattle.query_text.specs.Replies.{Tells, HasLines, IsScope, IsLine, or_none, Answers}

-- ---- lines that are determined

-- at most one text is said
abbrev IsOne : (List ℕ → Type 0) → Type 0
IsOne says = (lines other : List ℕ) → says lines → says other → lines ≡ other

-- some text is said
abbrev IsSome : (List ℕ → Type 0) → Type 0
IsSome says = (lines : List ℕ) × says lines

same : (lines : List ℕ) → IsOne (λ l. l ≡ lines)
same lines l m e f = e ∙ sym f

itself : (lines : List ℕ) → IsSome (λ l. l ≡ lines)
itself lines = (lines, refl)

tells_one : {A : Type 0} (thing : Option A) (says : A → List ℕ → Type 0) → ((x : A) → IsOne (says x)) → IsOne (Tells thing says)
tells_one None says one l m e f = e ∙ sym f
tells_one (Some x) says one l m e f = one x l m e f

tells_some : {A : Type 0} (thing : Option A) (says : A → List ℕ → Type 0) → ((x : A) → IsSome (says x)) → IsSome (Tells thing says)
tells_some None says some = ([], refl)
tells_some (Some x) says some = some x

module _ (one : (unit : OneUnit) (start : Key) (keys others : List Key) → IsListing unit start keys → IsListing unit start others → keys ≡ others) where
  listing_one : (unit : OneUnit) (key : Key) → IsOne (IsListingText unit key)
  listing_one unit key l m e f = e.2 ∙ ap (listing_text unit) (one unit key e.0 f.0 e.1 f.1) ∙ sym f.2

  lines_one : (world : World) (query : Query) → IsOne (HasLines world query)
  lines_one world queries.Units = same (units_text world.units)
  lines_one world (queries.Files n) =
      tells_one (slice_get world.units n) (λ unit lines. lines ≡ files_text unit.files) (λ unit. same (files_text unit.files))
  lines_one world (queries.TagNamed n name) =
      tells_one (slice_get world.units n) (λ unit. Tells (tag_of unit name) (IsListingText unit))
      (λ unit. tells_one (tag_of unit name) (IsListingText unit) (listing_one unit))
  lines_one world (queries.TypeNamed n name) =
      tells_one (slice_get world.units n) (λ unit. Tells (typedef_of unit name) (IsListingText unit))
      (λ unit. tells_one (typedef_of unit name) (IsListingText unit) (listing_one unit))
  lines_one world (queries.Number n f k) =
      tells_one (slice_get world.units n) (λ unit. IsListingText unit (record { file = f; number = k }))
      (λ unit. listing_one unit (record { file = f; number = k }))
  lines_one world (queries.Scope address) =
      tells_one (scope_at world address) (IsScope world)
      (λ scope. tells_one (slice_get world.units scope.unit) (λ unit lines. lines ≡ scope_text (external_value world.externals) unit scope)
      (λ unit. same (scope_text (external_value world.externals) unit scope)))
  lines_one world (queries.Line address) =
      tells_one (line_at world address) (IsLine world)
      (λ found. tells_one (slice_get world.units found.unit) (λ unit lines. lines ≡ line_text unit found)
      (λ unit. same (line_text unit found)))
  lines_one world (queries.Addresses file line) = same (addresses_text (addresses world file line))

  pub reply_one : (world : World) (query : Query) → IsOne (Answers world query)
  reply_one world query t u e f = e.2 ∙ ap or_none (lines_one world query e.0 f.0 e.1 f.1) ∙ sym f.2

module _ (some : (unit : OneUnit) (start : Key) → (keys : List Key) × IsListing unit start keys) where
  listing_some : (unit : OneUnit) (key : Key) → IsSome (IsListingText unit key)
  listing_some unit key = let listing = some unit key in (listing_text unit listing.0, (listing.0, listing.1, refl))

  lines_some : (world : World) (query : Query) → IsSome (HasLines world query)
  lines_some world queries.Units = itself (units_text world.units)
  lines_some world (queries.Files n) =
      tells_some (slice_get world.units n) (λ unit lines. lines ≡ files_text unit.files) (λ unit. itself (files_text unit.files))
  lines_some world (queries.TagNamed n name) =
      tells_some (slice_get world.units n) (λ unit. Tells (tag_of unit name) (IsListingText unit))
      (λ unit. tells_some (tag_of unit name) (IsListingText unit) (listing_some unit))
  lines_some world (queries.TypeNamed n name) =
      tells_some (slice_get world.units n) (λ unit. Tells (typedef_of unit name) (IsListingText unit))
      (λ unit. tells_some (typedef_of unit name) (IsListingText unit) (listing_some unit))
  lines_some world (queries.Number n f k) =
      tells_some (slice_get world.units n) (λ unit. IsListingText unit (record { file = f; number = k }))
      (λ unit. listing_some unit (record { file = f; number = k }))
  lines_some world (queries.Scope address) =
      tells_some (scope_at world address) (IsScope world)
      (λ scope. tells_some (slice_get world.units scope.unit) (λ unit lines. lines ≡ scope_text (external_value world.externals) unit scope)
      (λ unit. itself (scope_text (external_value world.externals) unit scope)))
  lines_some world (queries.Line address) =
      tells_some (line_at world address) (IsLine world)
      (λ found. tells_some (slice_get world.units found.unit) (λ unit lines. lines ≡ line_text unit found)
      (λ unit. itself (line_text unit found)))
  lines_some world (queries.Addresses file line) = itself (addresses_text (addresses world file line))

  pub reply_some : (world : World) (query : Query) → IsSome (Answers world query)
  reply_some world query = let lines = lines_some world query in (or_none lines.0, (lines.0, lines.1, refl))
