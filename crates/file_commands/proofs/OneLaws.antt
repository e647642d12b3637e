-- Words have one outcome at most.
use Rattle.std.proofs.Common.{◌≡◌, ℕ, List, inl, inr, sym, ap, subst, ◌∙◌}
use Rattle.outside.specs.Causes.{Contents}
use Rattle.st_base.specs.Number.{IsBytes}
use Rattle.st_base.specs.declared.fault.Fault.{Fault}
use Rattle.nlist_codec.specs.declared.named.Named.{Named}
use Rattle.aout_object.specs.Objects.{ObjectSpells, named_of}
use Rattle.aout_object.specs.Objects.{Contents as Object}
use Rattle.aout_object.specs.Checks.{FileFault}
use Rattle.stab_units.specs.declared.unit.Unit.{Unit}
use Rattle.stab_units.specs.ObjectUnits.{AreUnits, UnitsFault}
use Rattle.type_graph.specs.declared.world.World.{World}
use Rattle.unit_index.specs.Expanding.{IsExpanded, ExpandFault}
use Rattle.st_base.specs.declared.fault.Refused.TheVariants as refusals
use Rattle.aout_link.specs.Sources.{Source}
use Rattle.aout_link.specs.Linking.{IsLinked, RefusesLink}
use Rattle.aout_link.specs.declared.linking.Image.{Image}
use Rattle.bincl_match.specs.declared.mode.Mode.{Mode}
use Rattle.query_text.specs.declared.query.Query.{Query}
use Rattle.query_text.specs.Replies as replies
use Rattle.command_line.specs.declared.command.Command.{Command}
use Rattle.command_line.specs.declared.command.Command.TheVariants as commands
use Rattle.command_line.specs.declared.command.Asked.{Asked}
use Rattle.command_line.specs.declared.command.Asked.TheVariants as asks
use Rattle.file_commands.specs.declared.inputs.Cause.TheVariants as cause
use Rattle.file_commands.specs.declared.inputs.Inputs.{Inputs}
use Rattle.file_commands.specs.declared.inputs.Inputs.TheVariants.{All, Fault as Faulty, TooMuch, TooMany}
use Rattle.file_commands.specs.declared.outcome.Outcome.{Outcome}
use Rattle.file_commands.specs.declared.outcome.TheConstants.{DONE}
use Rattle.command_line.specs.CommandWords.{first}
use Rattle.command_line.specs.Commands.{asked}
use Rattle.file_commands.specs.Outcomes.{printed, refused}
use Rattle.file_commands.specs.QueryOutcomes.{text_end, OnWorld, RepliesOnWorld, RepliesOnObject, OnObject, Counts, Checks, Dumps, Lists, Answers, RepliesTo, Means, IsOutcome}
use Rattle.file_commands.proofs.LinkLaws.{files_once, asks_once}

module _ (one_fault : (end : ℕ) (entries : List Named) (f g : Fault) → UnitsFault end entries f → UnitsFault end entries g → f ≡ g)
    (not_both : (end : ℕ) (entries : List Named) (units : List Unit) (f : Fault) → AreUnits end entries units → UnitsFault end entries f → ⊥)
    (one_world : (end : ℕ) (entries : List Named) (world other : World) → IsExpanded end entries world → IsExpanded end entries other → world ≡ other)
    (one_world_fault : (end : ℕ) (entries : List Named) (f g : Fault) → ExpandFault end entries f → ExpandFault end entries g → f ≡ g)
    (world_or_fault : (end : ℕ) (entries : List Named) (world : World) (f : Fault) → IsExpanded end entries world → ExpandFault end entries f → ⊥)
    (one_object : (one other : Object) (bytes : List ℕ) → IsBytes bytes → ObjectSpells one bytes → ObjectSpells other bytes → one ≡ other)
    (one_refusal : (bytes : List ℕ) (one other : Fault) → FileFault bytes one → FileFault bytes other → one ≡ other)
    (object_or_refusal : (bytes : List ℕ) (object : Object) (f : Fault) → IsBytes bytes → ObjectSpells object bytes → FileFault bytes f → ⊥)
    (one_reply : (world : World) (query : Query) (text other : List ℕ) → replies.Answers world query text → replies.Answers world query other → text ≡ other)
    (one_image : (mode : Mode) (base : ℕ) (os : List Source) (old new other : ℕ) (image second : Image)
    → IsLinked mode base os old new image → IsLinked mode base os old other second → image ≡ second)
    (one_list_fault : (mode : Mode) (base : ℕ) (os : List Source) (f g : Fault) → RefusesLink mode base os (refusals.At f) → RefusesLink mode base os (refusals.At g) → f ≡ g)
    (linked_or_not : (mode : Mode) (base : ℕ) (os : List Source) (old new : ℕ) (image : Image) (f : Fault)
    → IsLinked mode base os old new image → RefusesLink mode base os (refusals.At f) → ⊥) where
  on_world_once : (query : Query) (world : World) (o other : Outcome) → RepliesOnWorld query world o → RepliesOnWorld query world other → o ≡ other
  on_world_once query world o other p q = p.2 ∙ ap (printed DONE) (one_reply world query p.0 q.0 p.1 q.1) ∙ sym q.2

  on_object_once : (name : List ℕ) (object : Object) (Says : World → Outcome → Type 0) → ((world : World) (o other : Outcome) → Says world o → Says world other → o ≡ other)
      → (o other : Outcome) → OnWorld name object Says o → OnWorld name object Says other → o ≡ other
  on_object_once name object Says once o other (inl p) (inl q) =
      let same : q.0 ≡ p.0 = one_world (text_end object) (named_of object) q.0 p.0 q.1 p.1 in
      once p.0 o other p.2 (subst (λ (w : World). Says w other) same q.2)
  on_object_once name object Says once o other (inl p) (inr q) = absurd (world_or_fault (text_end object) (named_of object) p.0 q.0 p.1 q.1)
  on_object_once name object Says once o other (inr p) (inl q) = absurd (world_or_fault (text_end object) (named_of object) q.0 p.0 q.1 p.1)
  on_object_once name object Says once o other (inr p) (inr q) = p.2 ∙ ap (refused name) (one_world_fault (text_end object) (named_of object) p.0 q.0 p.1 q.1) ∙ sym q.2

  on_file_once : (name bytes : List ℕ) (Says : Object → Outcome → Type 0) → ((object : Object) (o other : Outcome) → Says object o → Says object other → o ≡ other)
      → (o other : Outcome) → OnObject name bytes Says o → OnObject name bytes Says other → o ≡ other
  on_file_once name bytes Says once o other (are, inl p) (also, inl q) =
      let same : q.0 ≡ p.0 = one_object q.0 p.0 bytes are q.1 p.1 in
      once p.0 o other p.2 (subst (λ (z : Object). Says z other) same q.2)
  on_file_once name bytes Says once o other (are, inl p) (also, inr q) = absurd (object_or_refusal bytes p.0 q.0 are p.1 q.1)
  on_file_once name bytes Says once o other (are, inr p) (also, inl q) = absurd (object_or_refusal bytes q.0 p.0 are q.1 p.1)
  on_file_once name bytes Says once o other (are, inr p) (also, inr q) = p.2 ∙ ap (refused name) (one_refusal bytes p.0 q.0 p.1 q.1) ∙ sym q.2

  answers_once : (command : Command) (texts : List (List ℕ)) (o other : Outcome) → Answers command texts o → Answers command texts other → o ≡ other
  answers_once (commands.Query file query) texts o other p q =
      on_file_once file (first texts) (RepliesOnObject file query) (λ object. on_object_once file object (RepliesOnWorld query) (on_world_once query)) o other p q
  answers_once (commands.Check file) texts o other p q =
      on_file_once file (first texts) (Checks file) (λ object. on_object_once file object (Counts object) (λ world one two h k. h ∙ sym k)) o other p q
  answers_once (commands.Dump file) texts o other p q = on_file_once file (first texts) Dumps (λ object one two h k. h ∙ sym k) o other p q
  answers_once (commands.List file) texts o other p q = on_file_once file (first texts) Lists (λ object one two h k. h ∙ sym k) o other p q
  answers_once (commands.As order file out) texts o other p q = p ∙ sym q
  answers_once (commands.Link mode base out names) texts o other p q =
      files_once one_fault not_both one_object one_refusal object_or_refusal one_image one_list_fault linked_or_not mode base out names texts o other p q
  answers_once (commands.Ask names query) texts o other p q =
      asks_once one_fault not_both one_object one_refusal object_or_refusal one_image one_list_fault linked_or_not one_world one_reply query names texts o other p q

  replies_once : (command : Command) (inputs : Inputs) (o other : Outcome) → RepliesTo command inputs o → RepliesTo command inputs other → o ≡ other
  replies_once command (All texts) o other p q = answers_once command texts o other p q
  replies_once command (Faulty at cause.Absent) o other p q = p ∙ sym q
  replies_once command (Faulty at cause.Long) o other p q = p ∙ sym q
  replies_once command (Faulty at cause.Failed) o other p q = p ∙ sym q
  replies_once command TooMuch o other p q = p ∙ sym q
  replies_once command TooMany o other p q = p ∙ sym q

  means_once : (a : Asked) (m : Contents) (o other : Outcome) → Means a m o → Means a m other → o ≡ other
  means_once (asks.Wrong at) m o other p q = p ∙ sym q
  means_once (asks.Command command) m o other p q = replies_once command _ o other p q

  -- words have one outcome
  pub outcome_once : (words : List (List ℕ)) (m : Contents) (o other : Outcome) → IsOutcome words m o → IsOutcome words m other → o ≡ other
  outcome_once words m o other p q = means_once (asked words) m o other p q
