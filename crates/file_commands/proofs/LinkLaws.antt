-- Linking files has one outcome at most, and it has one where their texts are bytes and within the total; and so has asking a query of them.
use Rattle.std.proofs.Common.{◌≡◌, ◌⊎◌, inl, inr, ℕ, ◌+◌, ◌<◌, ◌≤◌, ◌^◌, length, List, [], ◌∷◌, ◌++◌, refl, sym, ap, subst, ◌∙◌}
use Rattle.std.specs.Prelude.{All, ⊤}
use Rattle.std.specs.List.{AllByRecursion, sum_by}
use Rattle.std.proofs.lemmas.List.Elements.{All-from_recursion}
use Rattle.st_base.specs.Number.{IsBytes}
use Rattle.st_base.specs.declared.fault.Fault.{Fault}
use Rattle.st_base.specs.declared.fault.Refused.TheVariants as refusals
use Rattle.st_base.specs.declared.sizes.TheConstants.{FILE_LIMIT}
use Rattle.nlist_codec.specs.declared.named.Named.{Named}
use Rattle.aout_object.specs.declared.parts.Parts.{Parts}
use Rattle.aout_object.specs.Objects.{ObjectSpells, named_of}
use Rattle.aout_object.specs.Objects.{Contents as Object}
use Rattle.aout_object.specs.Checks.{FileFault}
use Rattle.aout_object.proofs.NameLemmas.{names-whole}
use Rattle.stab_units.specs.declared.unit.Unit.{Unit as UnitOf}
use Rattle.stab_units.specs.ObjectUnits.{AreUnits, UnitsFault}
use Rattle.type_graph.specs.declared.world.World.{World}
use Rattle.unit_index.specs.Expanding.{IsExpanded}
use Rattle.query_text.specs.declared.query.Query.{Query}
use Rattle.query_text.specs.Replies as replies
use Rattle.aout_link.specs.Sources.{Source, IsLawful, HasUnits}
use Rattle.aout_link.specs.Linking.{IsLinked, RefusesLink}
use Rattle.aout_link.specs.NameTables.{entries_of}
use Rattle.aout_link.specs.declared.linking.Image.{Image}
use Rattle.bincl_match.specs.declared.mode.Mode.{Mode}
use Rattle.bincl_match.specs.declared.mode.Mode.TheVariants.{Merge}
use Rattle.aout_link.proofs.SourceLemmas.{lawful_of}
use Rattle.file_commands.specs.declared.outcome.Outcome.{Outcome}
use Rattle.file_commands.specs.declared.outcome.TheConstants.{DONE}
use Rattle.file_commands.specs.Outcomes.{printed}
use Rattle.file_commands.specs.QueryOutcomes.{text_end}
use Rattle.file_commands.specs.InputObjects.{Each, Spells, SpellsNone, IsSource, HasNoUnits, OnObjects, OnSources}
use Rattle.file_commands.specs.LinkOutcomes.{image_text, kept_image, list_outcome, LinksSources, LinksFiles}
use Rattle.file_commands.specs.Asking.{end_of, RepliesOnImage, AsksSources, AsksFiles}
use Rattle.file_commands.proofs.EachLaws.{on_each_once, on_each}
use Rattle.file_commands.proofs.FewEntries.{few_entries}
use Rattle.file_commands.proofs.ImageWorld.{has_world}

-- ---- one source

-- sources of the same object, with the same parts and the same entries
source_of : (x y : Object) (ps qs : Parts) (ns ms : List Named) → x ≡ y → ps ≡ qs → ns ≡ ms
    → let s : Source = record { object = x; parts = ps; named = ns } in s ≡ record { object = y; parts = qs; named = ms }
source_of x y ps qs ns ms o p q =
    let first = ap (λ (z : Object). let s : Source = record { object = z; parts = ps; named = ns } in s) o in
    let second = ap (λ (z : Parts). let s : Source = record { object = y; parts = z; named = ns } in s) p in
    let third = ap (λ (z : List Named). let s : Source = record { object = y; parts = qs; named = z } in s) q in
    first ∙ second ∙ third

one_source : (object : Object) (s other : Source) → IsSource object s → IsSource object other → s ≡ other
one_source object s other p q = source_of s.object other.object s.parts other.parts s.named other.named (p.given ∙ sym q.given) (p.parts ∙ sym q.parts) (p.named ∙ sym q.named)

-- the entries of a source have units, as those of its object
units_of : (object : Object) (s : Source) → IsSource object s → (units : List UnitOf) × AreUnits (text_end object) (named_of object) units
units_of object s p =
    let u = p.units in
    (u.0, subst (λ (ns : List Named). AreUnits (text_end object) ns u.0) p.named (subst (λ (parts : Parts). AreUnits (parts.entry + length parts.text) s.named u.0) p.parts u.1))

module _ (one_fault : (end : ℕ) (entries : List Named) (f g : Fault) → UnitsFault end entries f → UnitsFault end entries g → f ≡ g)
    (not_both : (end : ℕ) (entries : List Named) (units : List UnitOf) (f : Fault) → AreUnits end entries units → UnitsFault end entries f → ⊥)
    (one_object : (one other : Object) (bytes : List ℕ) → IsBytes bytes → ObjectSpells one bytes → ObjectSpells other bytes → one ≡ other)
    (one_refusal : (bytes : List ℕ) (one other : Fault) → FileFault bytes one → FileFault bytes other → one ≡ other)
    (object_or_refusal : (bytes : List ℕ) (object : Object) (f : Fault) → IsBytes bytes → ObjectSpells object bytes → FileFault bytes f → ⊥)
    (one_image : (mode : Mode) (base : ℕ) (os : List Source) (old new other : ℕ) (image second : Image)
    → IsLinked mode base os old new image → IsLinked mode base os old other second → image ≡ second)
    (one_list_fault : (mode : Mode) (base : ℕ) (os : List Source) (f g : Fault) → RefusesLink mode base os (refusals.At f) → RefusesLink mode base os (refusals.At g) → f ≡ g)
    (linked_or_not : (mode : Mode) (base : ℕ) (os : List Source) (old new : ℕ) (image : Image) (f : Fault)
    → IsLinked mode base os old new image → RefusesLink mode base os (refusals.At f) → ⊥) where
  -- what is said on the sources that files hold is one outcome, where it is one on any sources
  on_files_once : (names texts : List (List ℕ)) (Says : List Source → Outcome → Type 0) → ((sources : List Source) (o other : Outcome) → Says sources o → Says sources other → o ≡ other)
      → (o other : Outcome) → OnObjects names texts (λ objects. OnSources names objects Says) o → OnObjects names texts (λ objects. OnSources names objects Says) other → o ≡ other
  on_files_once names texts Says once o other p q =
      on_each_once Spells SpellsNone (λ text one two h k. one_object one two text h.0 h.1 k.1) (λ text f g h k. one_refusal text f g h.1 k.1)
      (λ text object f h k. object_or_refusal text object f h.0 h.1 k.1)
      names texts (λ objects. OnSources names objects Says)
      (λ objects.
      on_each_once IsSource HasNoUnits one_source (λ object f g. one_fault (text_end object) (named_of object) f g)
      (λ object s f holds fails. (let u = units_of object s holds in not_both (text_end object) (named_of object) u.0 f u.1 fails))
      names objects Says once)
      o other p q

  -- ---- linking

  sources_once : (mode : Mode) (base : ℕ) (out : List ℕ) (sources : List Source) (o other : Outcome) → LinksSources mode base out sources o → LinksSources mode base out sources other → o ≡ other
  sources_once mode base out sources o other (inl p) (inl q) = p.3 ∙ ap (kept_image out) (one_image mode base sources 0 p.1 q.1 p.0 q.0 p.2 q.2) ∙ sym q.3
  sources_once mode base out sources o other (inl p) (inr q) = absurd (linked_or_not mode base sources 0 p.1 p.0 q.0 p.2 q.1)
  sources_once mode base out sources o other (inr p) (inl q) = absurd (linked_or_not mode base sources 0 q.1 q.0 p.0 q.2 p.1)
  sources_once mode base out sources o other (inr p) (inr q) = p.2 ∙ ap (list_outcome sources) (one_list_fault mode base sources p.0 q.0 p.1 q.1) ∙ sym q.2

  pub files_once : (mode : Mode) (base : ℕ) (out : List ℕ) (names texts : List (List ℕ)) (o other : Outcome) → LinksFiles mode base out names texts o → LinksFiles mode base out names texts other → o ≡ other
  files_once mode base out names texts o other p q = on_files_once names texts (LinksSources mode base out) (sources_once mode base out) o other p q

  -- ---- asking

  module _ (one_world : (end : ℕ) (entries : List Named) (world other : World) → IsExpanded end entries world → IsExpanded end entries other → world ≡ other)
      (one_reply : (world : World) (query : Query) (text other : List ℕ) → replies.Answers world query text → replies.Answers world query other → text ≡ other) where
    replies_once : (query : Query) (image : Image) (o other : Outcome) → RepliesOnImage query image o → RepliesOnImage query image other → o ≡ other
    replies_once query image o other p q =
        let same : q.0 ≡ p.0 = one_world (end_of image) (named_of image.object) q.0 p.0 q.1 p.1 in
        let reply : p.2 ≡ q.2 = one_reply p.0 query p.2 q.2 p.3 (subst (λ (w : World). replies.Answers w query q.2) same q.3) in
        p.4 ∙ ap (λ (t : List ℕ). printed DONE (image_text image ++ t)) reply ∙ sym q.4

    asked_once : (query : Query) (sources : List Source) (o other : Outcome) → AsksSources query sources o → AsksSources query sources other → o ≡ other
    asked_once query sources o other (inl p) (inl q) =
        let same : q.0 ≡ p.0 = one_image Merge 0 sources 0 q.1 p.1 q.0 p.0 q.2 p.2 in
        replies_once query p.0 o other p.3 (subst (λ (i : Image). RepliesOnImage query i other) same q.3)
    asked_once query sources o other (inl p) (inr q) = absurd (linked_or_not Merge 0 sources 0 p.1 p.0 q.0 p.2 q.1)
    asked_once query sources o other (inr p) (inl q) = absurd (linked_or_not Merge 0 sources 0 q.1 q.0 p.0 q.2 p.1)
    asked_once query sources o other (inr p) (inr q) = p.2 ∙ ap (list_outcome sources) (one_list_fault Merge 0 sources p.0 q.0 p.1 q.1) ∙ sym q.2

    pub asks_once : (query : Query) (names texts : List (List ℕ)) (o other : Outcome) → AsksFiles query names texts o → AsksFiles query names texts other → o ≡ other
    asks_once query names texts o other p q = on_files_once names texts (AsksSources query) (asked_once query) o other p q

-- ---- an outcome

-- a source whose object a file spells
source_lawful : (object : Object) (text : List ℕ) (s : Source) → ObjectSpells object text → IsSource object s → IsLawful s
source_lawful object text s spells is =
    let lawful = lawful_of object (named_of object) refl (names-whole object.strings object.entries) spells.fits in
    let same : ◌≡◌ {A = Source} (record { object = object; parts = object.parts; named = named_of object }) s =
    source_of object s.object object.parts s.parts (named_of object) s.named (sym is.given) (sym is.parts) (sym is.named) in
    subst IsLawful same lawful

pub sources_lawful : (texts : List (List ℕ)) (objects : List Object) (sources : List Source) → Each Spells texts objects → Each IsSource objects sources → AllByRecursion IsLawful sources
sources_lawful [] [] [] p q = tt
sources_lawful [] [] (s ∷ sources) p q = absurd q
sources_lawful [] (object ∷ objects) sources p q = absurd p
sources_lawful (text ∷ texts) [] sources p q = absurd p
sources_lawful (text ∷ texts) (object ∷ objects) [] p q = absurd q
sources_lawful (text ∷ texts) (object ∷ objects) (s ∷ sources) p q = (source_lawful object text s p.0.1 q.0, sources_lawful texts objects sources p.1 q.1)

pub have_units : (objects : List Object) (sources : List Source) → Each IsSource objects sources → AllByRecursion HasUnits sources
have_units [] [] q = tt
have_units [] (s ∷ sources) q = absurd q
have_units (object ∷ objects) [] q = absurd q
have_units (object ∷ objects) (s ∷ sources) q = (q.0.units, have_units objects sources q.1)

-- nothing is asked of an object
any_good : (objects : List Object) → AllByRecursion (λ (object : Object). Unit {0}) objects
any_good [] = tt
any_good (object ∷ objects) = (tt, any_good objects)

module _ (some : (end : ℕ) (entries : List Named) → ((units : List UnitOf) × AreUnits end entries units) ⊎ ((f : Fault) × UnitsFault end entries f))
    (object_or_fault : (bytes : List ℕ) → IsBytes bytes → ((object : Object) × ObjectSpells object bytes) ⊎ ((f : Fault) × FileFault bytes f))
    (image_or_fault : (mode : Mode) (base : ℕ) (os : List Source) (old : ℕ) → All IsLawful os → All HasUnits os → length (entries_of os) < 2 ^ 32
    → ((new : ℕ) × (image : Image) × IsLinked mode base os old new image) ⊎ ((f : Fault) × RefusesLink mode base os (refusals.At f))) where
  some_object : (text : List ℕ) → IsBytes text → ((object : Object) × Spells text object) ⊎ ((f : Fault) × SpellsNone text f)
  some_object text are = by_object (object_or_fault text are) where
    by_object : ((object : Object) × ObjectSpells object text) ⊎ ((f : Fault) × FileFault text f) → ((object : Object) × Spells text object) ⊎ ((f : Fault) × SpellsNone text f)
    by_object (inl s) = inl ((s.0, (are, s.1)))
    by_object (inr f) = inr ((f.0, (are, f.1)))

  some_source : (object : Object) → ⊤ → ((s : Source) × IsSource object s) ⊎ ((f : Fault) × HasNoUnits object f)
  some_source object good = by_units (some (text_end object) (named_of object)) where
    by_units : ((units : List UnitOf) × AreUnits (text_end object) (named_of object) units) ⊎ ((f : Fault) × UnitsFault (text_end object) (named_of object) f)
        → ((s : Source) × IsSource object s) ⊎ ((f : Fault) × HasNoUnits object f)
    by_units (inl u) =
        let s : Source = record { object = object; parts = object.parts; named = named_of object } in
        inl ((s, record { given = refl; parts = refl; named = refl; units = u }))
    by_units (inr f) = inr f

  -- sources that a link takes
  abbrev AreGood : List Source → Type 0
  AreGood sources = All IsLawful sources × All HasUnits sources × (length (entries_of sources) < 2 ^ 32)

  -- there is an outcome on the sources that files hold, where there is one on any that a link takes
  on_all : (names texts : List (List ℕ)) (Says : List Source → Outcome → Type 0) → ((sources : List Source) → AreGood sources → (o : Outcome) × Says sources o)
      → AllByRecursion IsBytes texts → sum_by length texts ≤ FILE_LIMIT → (o : Outcome) × OnObjects names texts (λ objects. OnSources names objects Says) o
  on_all names texts Says says good within =
      on_each Spells SpellsNone IsBytes some_object names texts (λ objects. OnSources names objects Says) good
      (λ objects are.
      on_each IsSource HasNoUnits (λ (object : Object). Unit {0}) some_source names objects Says (any_good objects)
      (λ sources each.
      says sources
      ((
        All-from_recursion IsLawful sources (sources_lawful texts objects sources are each),
        All-from_recursion HasUnits sources (have_units objects sources each),
        few_entries texts objects sources within are each,
      ))))

  -- ---- linking

  on_sources : (mode : Mode) (base : ℕ) (out : List ℕ) (sources : List Source) → AreGood sources → (o : Outcome) × LinksSources mode base out sources o
  on_sources mode base out sources good = by_link (image_or_fault mode base sources 0 good.0 good.1 good.2) where
    by_link : ((new : ℕ) × (image : Image) × IsLinked mode base sources 0 new image) ⊎ ((f : Fault) × RefusesLink mode base sources (refusals.At f))
        → (o : Outcome) × LinksSources mode base out sources o
    by_link (inl p) = (kept_image out p.1, inl ((p.1, p.0, p.2, refl)))
    by_link (inr f) = (list_outcome sources f.0, inr ((f.0, f.1, refl)))

  pub on_files : (mode : Mode) (base : ℕ) (out : List ℕ) (names texts : List (List ℕ)) → AllByRecursion IsBytes texts → sum_by length texts ≤ FILE_LIMIT
      → (o : Outcome) × LinksFiles mode base out names texts o
  on_files mode base out names texts good within = on_all names texts (LinksSources mode base out) (on_sources mode base out) good within

  -- ---- asking

  module _ (a_reply : (world : World) (query : Query) → (text : List ℕ) × replies.Answers world query text) where
    -- the reply on the image of sources
    pub on_image : (query : Query) (sources : List Source) (steps : ℕ) (image : Image) → IsLinked Merge 0 sources 0 steps image → (o : Outcome) × RepliesOnImage query image o
    on_image query sources steps image linked =
        let w = has_world Merge 0 sources 0 steps image linked in
        let r = a_reply w.0 query in
        (printed DONE (image_text image ++ r.0), (w.0, w.1, r.0, r.1, refl))

    ask_sources : (query : Query) (sources : List Source) → AreGood sources → (o : Outcome) × AsksSources query sources o
    ask_sources query sources good = by_link (image_or_fault Merge 0 sources 0 good.0 good.1 good.2) where
      by_link : ((new : ℕ) × (image : Image) × IsLinked Merge 0 sources 0 new image) ⊎ ((f : Fault) × RefusesLink Merge 0 sources (refusals.At f))
          → (o : Outcome) × AsksSources query sources o
      by_link (inl p) = let r = on_image query sources p.0 p.1 p.2 in (r.0, inl ((p.1, p.0, p.2, r.1)))
      by_link (inr f) = (list_outcome sources f.0, inr ((f.0, f.1, refl)))

    pub ask_files : (query : Query) (names texts : List (List ℕ)) → AllByRecursion IsBytes texts → sum_by length texts ≤ FILE_LIMIT → (o : Outcome) × AsksFiles query names texts o
    ask_files query names texts good within = on_all names texts (AsksSources query) (ask_sources query) good within
