-- A query on a file that holds the bytes of an image is answered on the world of the placed entries; an accepted list has an image, in
-- either mode; where linking files is done, the image of these is what is stored; and where asking is done, the reply is on that world.
use Rattle.std.proofs.Common.{◌≡◌, ◌⊎◌, inl, inr, ℕ, ◌<◌, ◌≤◌, ◌^◌, Bool, true, false, List, [], ◌∷◌, ◌++◌, length, Some, None, refl, sym, ap, subst, ◌∙◌, arith}
use Rattle.std.specs.Prelude.{◌↔◌, if◌then◌else◌, ◌==◌, All as All'}
use Rattle.std.specs.List.{sum_by}
use Rattle.std.specs.FinMap.{get}
use Rattle.std.proofs.lemmas.Bool.{le-ltb}
use Rattle.std.proofs.lemmas.List.Elements.{All-from_recursion}
use Rattle.std.proofs.lemmas.List.Sums.{sum_by-cons}
use Rattle.outside.specs.Causes.{Contents}
use Rattle.st_base.specs.Number.{IsBytes}
use Rattle.st_base.specs.declared.fault.Fault.{Fault}
use Rattle.st_base.specs.declared.fault.Refused.TheVariants as refusals
use Rattle.st_base.specs.declared.fault.TheConstants.{TOO_LARGE}
use Rattle.st_base.specs.declared.sizes.TheConstants.{FILE_LIMIT}
use Rattle.nlist_codec.specs.declared.named.Named.{Named}
use Rattle.aout_object.specs.Objects.{ObjectSpells, named_of, file_of}
use Rattle.aout_object.specs.Objects.{Contents as Object}
use Rattle.aout_object.specs.Checks.{FileFault}
use Rattle.type_graph.specs.declared.world.World.{World}
use Rattle.unit_index.specs.Expanding.{IsExpanded, ExpandFault}
use Rattle.query_text.specs.declared.query.Query.{Query}
use Rattle.query_text.specs.Replies as replies
use Rattle.aout_link.specs.Accepted.{Accepted}
use Rattle.aout_link.specs.Linking.{IsLinked, RefusesLink}
use Rattle.aout_link.specs.Refusals.{list_fault}
use Rattle.aout_link.specs.Sources.{Source, IsLawful, HasUnits}
use Rattle.aout_link.specs.NameTables.{entries_of}
use Rattle.aout_link.specs.declared.linking.Image.{Image}
use Rattle.bincl_match.specs.declared.mode.Mode.{Mode}
use Rattle.bincl_match.specs.declared.mode.Mode.TheVariants.{Merge}
use Rattle.command_line.specs.declared.command.Asked.{Asked}
use Rattle.command_line.specs.declared.command.Asked.TheVariants as asks
use Rattle.command_line.specs.declared.command.Command.{Command}
use Rattle.command_line.specs.declared.command.Command.TheVariants as commands
use Rattle.file_commands.specs.declared.inputs.Cause.TheVariants as cause
use Rattle.file_commands.specs.declared.inputs.Inputs.{Inputs}
use Rattle.file_commands.specs.declared.inputs.Inputs.TheVariants.{All, Fault as Faulty, TooMuch, TooMany}
use Rattle.command_line.specs.declared.limits.TheConstants.{OBJECT_LIMIT, MOST_NAMES}
use Rattle.file_commands.specs.declared.outcome.Outcome.{Outcome}
use Rattle.file_commands.specs.declared.outcome.TheConstants.{DONE, REFUSED, LIST_REFUSED, ABSENT, READ_FAULT, LIMIT}
use Rattle.command_line.specs.Commands.{inputs_of, most_of}
use Rattle.file_commands.specs.Inputs.{loaded_inputs, after_content, within_total, name_at}
use Rattle.file_commands.specs.Outcomes.{printed, absent, read_fault, limit, refused, list_refused, list_refused_at}
use Rattle.file_commands.specs.InputObjects.{Each, Spells, IsSource, OnObjects, OnSources}
use Rattle.file_commands.specs.LinkOutcomes.{image_text, kept_image, entry_name, is_about_name, list_outcome, LinksSources, LinksFiles}
use Rattle.file_commands.specs.Asking.{end_of, RepliesOnImage, AsksSources, AsksFiles}
use Rattle.file_commands.specs.QueryOutcomes.{text_end, IsWorld, RepliesOnWorld, RepliesOnObject, OnObject, Answers, RepliesTo, Means, IsOutcome}
use Rattle.file_commands.specs.ListImages.{AnswersAsWorld, IsAcceptedList, IsListImage, IsImageFile, IsAskedOf}
use Rattle.file_commands.proofs.LineLemmas.{Prints, prints_absent, prints_read_fault, prints_limit, prints_refused, prints_list, prints_list_at}
use Rattle.file_commands.proofs.ImageLemmas.{IsFileObject, sources_fields, linked_is}
use Rattle.file_commands.proofs.LinkLaws.{sources_lawful, have_units}
use Rattle.file_commands.proofs.FewEntries.{IsWithin, loaded_within, few_entries}
use Rattle.file_commands.proofs.ImageWorld.{placed_world, is_placed_world, is_image_world, has_world}

-- ---- what a query loads

-- the content of one file, which is within the limit
loaded_one : (m : Contents) (file bytes : List ℕ) → get m file ≡ Some bytes → length bytes ≤ FILE_LIMIT → loaded_inputs m FILE_LIMIT FILE_LIMIT (file ∷ []) ≡ All (bytes ∷ [])
loaded_one m file bytes e within =
    let next : List ℕ → Inputs = λ text. within_total FILE_LIMIT (text ∷ []) in
    let total : sum_by length (bytes ∷ []) ≤ FILE_LIMIT = let sum = sum_by-cons {X = List ℕ} length bytes [] in omega (arith, sum, within) in
    ap (after_content FILE_LIMIT 0 next) e
    ∙ ap (λ (b : Bool). if b then Faulty 0 cause.Long else next bytes) (le-ltb FILE_LIMIT (length bytes) within)
    ∙ ap (λ (b : Bool). if b then TooMuch else All (bytes ∷ [])) (le-ltb FILE_LIMIT (sum_by length (bytes ∷ [])) total)

-- ---- statuses of refusals

-- an outcome that is done is none with another status
not_done : (o other : Outcome) (status : ℕ) → o ≡ other → Prints status other → (status ≡ DONE → ⊥) → o.status ≡ DONE → ⊥
not_done o other status same prints differs done = differs (sym prints.answers ∙ sym (ap (λ (z : Outcome). z.status) same) ∙ done)

three_zero : ◌≡◌ {A = ℕ} REFUSED DONE → ⊥
three_zero e = absurd cc

four_zero : ◌≡◌ {A = ℕ} LIST_REFUSED DONE → ⊥
four_zero e = absurd cc

five_zero : ◌≡◌ {A = ℕ} ABSENT DONE → ⊥
five_zero e = absurd cc

six_zero : ◌≡◌ {A = ℕ} READ_FAULT DONE → ⊥
six_zero e = absurd cc

nine_zero : ◌≡◌ {A = ℕ} LIMIT DONE → ⊥
nine_zero e = absurd cc

-- the line of a fault of a list is not done
list_not_done : (sources : List Source) (f : Fault) (o : Outcome) → o ≡ list_outcome sources f → o.status ≡ DONE → ⊥
list_not_done sources f o e done = by (f.number == TOO_LARGE) (is_about_name f) e
  where
    by : (large named : Bool) → o ≡ (if large then limit f.place else (if named then list_refused_at f (entry_name sources f) else list_refused f)) → ⊥
    by true named e = not_done o (limit f.place) LIMIT e (prints_limit f.place) nine_zero done
    by false true e = not_done o (list_refused_at f (entry_name sources f)) LIST_REFUSED e (prints_list_at f (entry_name sources f)) four_zero done
    by false false e = not_done o (list_refused f) LIST_REFUSED e (prints_list f) four_zero done

-- ---- where linking or asking is done

-- the sources that texts hold, and an image of them
record LinksTexts (mode : Mode) (base : ℕ) (texts : List (List ℕ)) (image : Image) : Type 0 where
  objects : List Object
  spelled : Each Spells texts objects
  sources : List Source
  are : Each IsSource objects sources
  steps : ℕ
  linked : IsLinked mode base sources 0 steps image

-- a refusal of one of several is not done
one_not_done : (names : List (List ℕ)) (place : ℕ) (f : Fault) (o : Outcome) → o ≡ refused (name_at names place) f → o.status ≡ DONE → ⊥
one_not_done names place f o is done = not_done o (refused (name_at names place) f) REFUSED is (prints_refused (name_at names place) f) three_zero done

-- what is done on files is said on their sources
module _ (Says : List Source → Outcome → Type 0) where
  -- the sources of texts, on which this is said
  record SaysOn (texts : List (List ℕ)) (o : Outcome) : Type 0 where
    objects : List Object
    spelled : Each Spells texts objects
    sources : List Source
    are : Each IsSource objects sources
    says : Says sources o

  objects_say : (names texts : List (List ℕ)) (objects : List Object) (o : Outcome) → Each Spells texts objects → OnSources names objects Says o → o.status ≡ DONE → SaysOn texts o
  objects_say names texts objects o spelled (inl p) done = record { objects = objects; spelled = spelled; sources = p.0; are = p.1; says = p.2 }
  objects_say names texts objects o spelled (inr p) done = absurd (one_not_done names p.0 p.1 o p.3 done)

  files_say : (names texts : List (List ℕ)) (o : Outcome) → OnObjects names texts (λ objects. OnSources names objects Says) o → o.status ≡ DONE → SaysOn texts o
  files_say names texts o (inl p) done = objects_say names texts p.0 o p.1 p.2 done
  files_say names texts o (inr p) done = absurd (one_not_done names p.0 p.1 o p.3 done)

-- the texts on which a command is answered that is done
inputs_done : (command : Command) (inputs : Inputs) (o : Outcome) → RepliesTo command inputs o → o.status ≡ DONE
    → (texts : List (List ℕ)) × (inputs ≡ All texts) × Answers command texts o
inputs_done command (All texts) o r done = (texts, refl, r)
inputs_done command (Faulty at cause.Absent) o r done =
    let name : List ℕ = name_at (inputs_of command) at in
    absurd (not_done o (absent name) ABSENT r (prints_absent name) five_zero done)
inputs_done command (Faulty at cause.Long) o r done = absurd (not_done o (limit (most_of command)) LIMIT r (prints_limit (most_of command)) nine_zero done)
inputs_done command (Faulty at cause.Failed) o r done =
    let name : List ℕ = name_at (inputs_of command) at in
    absurd (not_done o (read_fault name) READ_FAULT r (prints_read_fault name) six_zero done)
inputs_done command TooMuch o r done = absurd (not_done o (limit FILE_LIMIT) LIMIT r (prints_limit FILE_LIMIT) nine_zero done)
inputs_done command TooMany o r done = absurd (not_done o (limit MOST_NAMES) LIMIT r (prints_limit MOST_NAMES) nine_zero done)

-- the image whose file is kept
link_done : (mode : Mode) (base : ℕ) (out : List ℕ) (texts : List (List ℕ)) (o : Outcome) → SaysOn (LinksSources mode base out) texts o → o.status ≡ DONE
    → (image : Image) × LinksTexts mode base texts image × (o ≡ kept_image out image)
link_done mode base out texts o on done = by on.says
  where
    by : LinksSources mode base out on.sources o → (image : Image) × LinksTexts mode base texts image × (o ≡ kept_image out image)
    by (inl p) = (p.0, record { objects = on.objects; spelled = on.spelled; sources = on.sources; are = on.are; steps = p.1; linked = p.2 }, p.3)
    by (inr p) = absurd (list_not_done on.sources p.0 o p.2 done)

-- the image on which the reply is
ask_done : (query : Query) (texts : List (List ℕ)) (o : Outcome) → SaysOn (AsksSources query) texts o → o.status ≡ DONE
    → (image : Image) × LinksTexts Merge 0 texts image × RepliesOnImage query image o
ask_done query texts o on done = by on.says
  where
    by : AsksSources query on.sources o → (image : Image) × LinksTexts Merge 0 texts image × RepliesOnImage query image o
    by (inl p) = (p.0, record { objects = on.objects; spelled = on.spelled; sources = on.sources; are = on.are; steps = p.1; linked = p.2 }, p.3)
    by (inr p) = absurd (list_not_done on.sources p.0 o p.2 done)

-- ---- images

module _ (mode : Mode) (base : ℕ) (names : List (List ℕ)) (m : Contents) (texts : List (List ℕ)) (image : Image) (loaded : loaded_inputs m OBJECT_LIMIT FILE_LIMIT names ≡ All texts)
    (links : LinksTexts mode base texts image) where
  -- the world of the placed entries
  abbrev world_of : World
  world_of = placed_world mode base links.sources 0 links.steps image links.linked

  -- what is linked of the texts of a list is its image
  is_list_image : IsListImage mode base names m image world_of
  is_list_image =
      let linked = links.linked in
      record {
        sources = links.sources;
        are = record { texts = texts; loaded = loaded; objects = links.objects; spelled = links.spelled; are = links.are };
        steps = links.steps;
        linked = linked;
        placed = linked.placed;
        is_placed = linked.planned.is_placed;
        ranges = linked.planned.ranges;
        are_ranges = linked.planned.are;
        grouping = linked.grouping;
        grouped = linked.planned.grouped;
        entries = linked.is.named;
        is_world = is_placed_world mode base links.sources 0 links.steps image linked;
      }

  -- the image, filled in, has that world
  has_that_world : IsWorld image.object world_of
  has_that_world = is_image_world mode base links.sources 0 links.steps image links.linked

  -- its object is one that a file spells
  is_file_object : IsFileObject image.object
  is_file_object =
      linked_is mode base links.sources 0 links.steps image (sources_lawful texts links.objects links.sources links.spelled links.are)
      (sources_fields texts links.objects links.sources links.spelled links.are) links.linked

-- ---- queries on an image

module _ (one_world : (end : ℕ) (entries : List Named) (world other : World) → IsExpanded end entries world → IsExpanded end entries other → world ≡ other) where
  -- where asking is done, the line of the image is printed, and the reply on the world of the placed entries
  pub told_image : (names : List (List ℕ)) (query : Query) (m : Contents) (o : Outcome) → Means (asks.Command (commands.Ask names query)) m o → o.status ≡ DONE
      → IsAskedOf names query m o.text
  told_image names query m o means done =
      let r = inputs_done (commands.Ask names query) (loaded_inputs m OBJECT_LIMIT FILE_LIMIT names) o means done in
      let a = ask_done query r.0 o (files_say (AsksSources query) names r.0 o r.2 done) done in
      let world : World = world_of Merge 0 names m r.0 a.0 r.1 a.1 in
      let reply = a.2 in
      let same : reply.0 ≡ world = one_world (end_of a.0) (named_of a.0.object) reply.0 world reply.1 (has_that_world Merge 0 names m r.0 a.0 r.1 a.1) in
      record {
        image = a.0;
        world = world;
        is = is_list_image Merge 0 names m r.0 a.0 r.1 a.1;
        reply = reply.2;
        answers = subst (λ (w : World). replies.Answers w query reply.2) same reply.3;
        lines = ap (λ (z : Outcome). z.text) reply.4;
      }

module _ (one_world : (end : ℕ) (entries : List Named) (world other : World) → IsExpanded end entries world → IsExpanded end entries other → world ≡ other)
    (world_or_fault : (end : ℕ) (entries : List Named) (world : World) (f : Fault) → IsExpanded end entries world → ExpandFault end entries f → ⊥)
    (one_object : (one other : Object) (bytes : List ℕ) → IsBytes bytes → ObjectSpells one bytes → ObjectSpells other bytes → one ≡ other)
    (object_or_refusal : (bytes : List ℕ) (object : Object) (f : Fault) → IsBytes bytes → ObjectSpells object bytes → FileFault bytes f → ⊥) where
  -- a reply on an object that has this world is one on this world
  on_object : (file : List ℕ) (query : Query) (object : Object) (world : World) (o : Outcome) → IsWorld object world → RepliesOnObject file query object o → RepliesOnWorld query world o
  on_object file query object world o is (inl p) =
      subst (λ (w : World). RepliesOnWorld query w o) (one_world (text_end object) (named_of object) p.0 world p.1 is) p.2
  on_object file query object world o is (inr p) = absurd (world_or_fault (text_end object) (named_of object) world p.0 is p.1)

  -- and one on a file that spells the object is too
  on_file : (file bytes : List ℕ) (query : Query) (object : Object) (world : World) (o : Outcome) → ObjectSpells object bytes → IsWorld object world
      → OnObject file bytes (RepliesOnObject file query) o → RepliesOnWorld query world o
  on_file file bytes query object world o spells is (are, inl p) =
      let same : p.0 ≡ object = one_object p.0 object bytes are p.1 spells in
      on_object file query object world o is (subst (λ (z : Object). RepliesOnObject file query z o) same p.2)
  on_file file bytes query object world o spells is (are, inr p) = absurd (object_or_refusal bytes object p.0 are spells p.1)

  -- every query on a file that spells an object with this world
  answers_as : (object : Object) (bytes : List ℕ) (world : World) → IsBytes bytes → length bytes ≤ FILE_LIMIT → ObjectSpells object bytes → IsWorld object world → AnswersAsWorld bytes world
  answers_as object bytes world are within spells is words m file query o command_is holds =
      let command : Command = commands.Query file query in
      let loaded : loaded_inputs m FILE_LIMIT FILE_LIMIT (file ∷ []) ≡ All (bytes ∷ []) = loaded_one m file bytes holds within in
      let to : IsOutcome words m o → RepliesOnWorld query world o =
      λ (means : IsOutcome words m o).
      (let known : RepliesTo command (loaded_inputs m FILE_LIMIT FILE_LIMIT (file ∷ [])) o = subst (λ (a : Asked). Means a m o) command_is means in
      on_file file bytes query object world o spells is (subst (λ (i : Inputs). RepliesTo command i o) loaded known)) in
      let from : RepliesOnWorld query world o → IsOutcome words m o =
      λ (replies : RepliesOnWorld query world o).
      (let known : RepliesTo command (All (bytes ∷ [])) o = (are, inl ((object, spells, inl ((world, is, replies))))) in
      let means : Means (asks.Command command) m o = subst (λ (i : Inputs). RepliesTo command i o) (sym loaded) known in
      subst (λ (a : Asked). Means a m o) (sym command_is) means) in
      (to, from)

  -- ---- the image file

  -- where linking is done, the file of the image is stored
  pub stored_image : (mode : Mode) (base : ℕ) (out : List ℕ) (names : List (List ℕ)) (m : Contents) (o : Outcome) → Means (asks.Command (commands.Link mode base out names)) m o → o.status ≡ DONE
      → (bytes : List ℕ) × IsImageFile mode base names m bytes × (o.stored ≡ Some (record { name = out; bytes = bytes }))
  stored_image mode base out names m o means done =
      let r = inputs_done (commands.Link mode base out names) (loaded_inputs m OBJECT_LIMIT FILE_LIMIT names) o means done in
      let l = link_done mode base out r.0 o (files_say (LinksSources mode base out) names r.0 o r.2 done) done in
      let object : Object = l.0.object in
      let world : World = world_of mode base names m r.0 l.0 r.1 l.1 in
      let is_file = is_file_object mode base names m r.0 l.0 r.1 l.1 in (
        file_of object,
        record {
          image = l.0;
          world = world;
          is = is_list_image mode base names m r.0 l.0 r.1 l.1;
          spells = is_file.spells;
          answers = answers_as object (file_of object) world is_file.bytes is_file.within is_file.spells (has_that_world mode base names m r.0 l.0 r.1 l.1);
        },
        ap (λ (z : Outcome). z.stored) l.2,
      )

-- ---- an accepted list

module _ (accepted_exactly : (base : ℕ) (os : List Source) → ((list_fault base os ≡ None) ↔ Accepted base os))
    (image_or_fault : (mode : Mode) (base : ℕ) (os : List Source) (old : ℕ) → All' IsLawful os → All' HasUnits os → length (entries_of os) < 2 ^ 32
    → ((new : ℕ) × (image : Image) × IsLinked mode base os old new image) ⊎ ((f : Fault) × RefusesLink mode base os (refusals.At f))) where
  -- an accepted list has an image
  list_image : (mode : Mode) (base : ℕ) (names : List (List ℕ)) (m : Contents) (list : IsAcceptedList mode base names m)
      → (new : ℕ) × (image : Image) × IsLinked mode base list.sources 0 new image
  list_image mode base names m list =
      let are = list.are in
      let lawful = All-from_recursion IsLawful list.sources (sources_lawful are.texts are.objects list.sources are.spelled are.are) in
      let units = All-from_recursion HasUnits list.sources (have_units are.objects list.sources are.are) in
      let within : IsWithin FILE_LIMIT (All are.texts) = subst (IsWithin FILE_LIMIT) are.loaded (loaded_within m OBJECT_LIMIT FILE_LIMIT names) in
      let few = few_entries are.texts are.objects list.sources within are.spelled are.are in
      by_link (image_or_fault mode base list.sources 0 lawful units few)
    where
      no_fault : list_fault base list.sources ≡ None
      no_fault = (accepted_exactly base list.sources).1 list.accepted

      refusal : (f : Fault) → RefusesLink mode base list.sources (refusals.At f) → ⊥
      refusal f (inl p) = absurd (let z : Some f ≡ None = sym p ∙ no_fault in cc)
      refusal f (inr p) = absurd (let z : Some f ≡ None = sym p.3 ∙ list.fits p.0 p.1 p.2 in cc)

      by_link : ((new : ℕ) × (image : Image) × IsLinked mode base list.sources 0 new image) ⊎ ((f : Fault) × RefusesLink mode base list.sources (refusals.At f))
          → (new : ℕ) × (image : Image) × IsLinked mode base list.sources 0 new image
      by_link (inl p) = p
      by_link (inr p) = absurd (refusal p.0 p.1)

  -- and linking it is done
  pub linked_list : (mode : Mode) (base : ℕ) (out : List ℕ) (names : List (List ℕ)) (m : Contents) → IsAcceptedList mode base names m
      → (o : Outcome) × Means (asks.Command (commands.Link mode base out names)) m o × (o.status ≡ DONE)
  linked_list mode base out names m list =
      let are = list.are in
      let p = list_image mode base names m list in
      let o : Outcome = kept_image out p.1 in
      let links : LinksFiles mode base out names are.texts o = inl ((are.objects, are.spelled, inl ((list.sources, are.are, inl ((p.1, p.0, p.2, refl)))))) in
      (o, subst (λ (i : Inputs). RepliesTo (commands.Link mode base out names) i o) (sym are.loaded) links, refl)

  -- and so is asking a query of it
  pub asked_list : ((world : World) (query : Query) → (text : List ℕ) × replies.Answers world query text) → (names : List (List ℕ)) (query : Query) (m : Contents)
      → IsAcceptedList Merge 0 names m → (o : Outcome) × Means (asks.Command (commands.Ask names query)) m o × (o.status ≡ DONE)
  asked_list a_reply names query m list =
      let are = list.are in
      let p = list_image Merge 0 names m list in
      let w = has_world Merge 0 list.sources 0 p.0 p.1 p.2 in
      let reply = a_reply w.0 query in
      let o : Outcome = printed DONE (image_text p.1 ++ reply.0) in
      let answers : AsksFiles query names are.texts o =
      inl ((are.objects, are.spelled, inl ((list.sources, are.are, inl ((p.1, p.0, p.2, (w.0, w.1, reply.0, reply.1, refl)))))))
      in
      (o, subst (λ (i : Inputs). RepliesTo (commands.Ask names query) i o) (sym are.loaded) answers, refl)
