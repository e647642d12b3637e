-- Worked values of accepted lists and of their images: the list of one file, which is a bare header, is accepted; no files, a file that is
-- missing, and one that is no object are not; and no files have no image.
use Rattle.std.proofs.Common.{◌≡◌, ◌≢◌, ℕ, zero, suc, ◌<◌, ◌≤◌, ◌^◌, List, [], ◌∷◌, ◌++◌, refl, sym, ap, ◌∙◌, inl, inr, arith, lit<, slice_get, subst}
use Rattle.std.specs.Prelude.{Option, Some, None}
use Rattle.std.specs.FinMap.{get}
use Rattle.outside.specs.Causes.{Contents}
use Rattle.st_base.specs.Number.{IsBytes}
use Rattle.st_base.specs.Faults.{fault_at}
use Rattle.st_base.specs.declared.fault.Fault.{Fault}
use Rattle.st_base.specs.declared.sizes.TheConstants.{FILE_LIMIT}
use Rattle.st_base.specs.declared.order.Order.TheVariants.{Little}
use Rattle.st_base.proofs.BytesLemmas.{IsBytes-append}
use Rattle.nlist_codec.specs.declared.named.Named.{Named}
use Rattle.aout_layout.specs.Headers.{header_bytes}
use Rattle.aout_object.specs.Objects.{ObjectFits, ObjectSpells, file_of, header_for}
use Rattle.aout_object.specs.Objects.{Contents as Object}
use Rattle.unit_outlines.specs.declared.outline_types.Marks.TheVariants as marks
use Rattle.unit_outlines.specs.Outlines.{OutlineFault}
use Rattle.stab_units.specs.ObjectUnits.{AreUnits}
use Rattle.type_graph.specs.declared.world.World.{World}
use Rattle.bincl_match.specs.declared.mode.Mode.{Mode}
use Rattle.bincl_match.specs.declared.mode.Mode.TheVariants.{Keep}
use Rattle.bincl_match.specs.declared.range.Grouping.{Grouping}
use Rattle.aout_link.specs.Accepted.{Accepted}
use Rattle.aout_link.specs.Linking.{IsPlanned, image_placed}
use Rattle.aout_link.specs.ImageMaking.{size_fault}
use Rattle.aout_link.specs.Placing.{IsPlaced}
use Rattle.aout_link.specs.Refusals.{list_fault}
use Rattle.aout_link.specs.Sources.{Source}
use Rattle.aout_link.specs.declared.linking.Image.{Image}
use Rattle.aout_link.specs.declared.placed.Placed.{Placed}
use Rattle.aout_link.proofs.AcceptedLemmas.{accepted_exactly}
use Rattle.command_line.specs.declared.limits.TheConstants.{OBJECT_LIMIT}
use Rattle.file_commands.specs.declared.inputs.Inputs.{Inputs}
use Rattle.file_commands.specs.declared.inputs.Inputs.TheVariants.{All, Fault as Lacking}
use Rattle.file_commands.specs.declared.inputs.Cause.TheVariants as cause
use Rattle.file_commands.specs.Inputs.{after_content, inputs_from, loaded_inputs}
use Rattle.file_commands.specs.InputObjects.{Each, Spells, IsSource}
use Rattle.file_commands.specs.ListImages.{AreSources, IsAcceptedList, IsListImage}
use Rattle.file_commands.proofs.ImageLemmas.{header_is_bytes}

-- ---- a file

-- the object of a file that is a bare header
abbrev bare : Object
bare = record {
  parts = record { order = Little; machine = 100; bss = 0; entry = 0; text = []; data_part = []; text_relocs = []; data_relocs = [] };
  entries = [];
  strings = [];
}

-- its 32 bytes
abbrev bytes : List ℕ
bytes = 7 ∷ 1 ∷ 100 ∷ 0 ∷ 0 ∷ 0 ∷ 0 ∷ 0 ∷ 0 ∷ 0 ∷ 0 ∷ 0 ∷ 0 ∷ 0 ∷ 0 ∷ 0 ∷ 0 ∷ 0 ∷ 0 ∷ 0 ∷ 0 ∷ 0 ∷ 0 ∷ 0 ∷ 0 ∷ 0 ∷ 0 ∷ 0 ∷ 0 ∷ 0 ∷ 0 ∷ 0 ∷ []

bytes-are : bytes ≡ file_of bare
bytes-are = refl

fits : ObjectFits bare
fits = record {
  header = record { order_told = λ e. omega (arith, e); whole_entries = refl; whole_text_relocs = refl; whole_data_relocs = refl; addresses = omega arith };
  numbers = record {
    machine = lit< tt;
    text = lit< tt;
    data_part = lit< tt;
    bss = lit< tt;
    symbols = lit< tt;
    entry = lit< tt;
    text_relocs = lit< tt;
    data_relocs = lit< tt;
  };
  text_relocs = tt;
  data_relocs = tt;
  entries = tt;
  accepted = tt;
  table = inl (refl, refl);
}

spells : Spells bytes bare
spells = (subst IsBytes (sym bytes-are) (IsBytes-append (header_bytes (header_for bare)) [] (header_is_bytes (header_for bare)) tt), record { fits = fits; sequence = bytes-are })

-- ---- its source

abbrev source : Source
source = record { object = bare; parts = bare.parts; named = [] }

no_entry : {X : Type 0} (place : ℕ) (x : X) → slice_get [] place ≡ Some x → ⊥
no_entry zero x e = cc
no_entry (suc place) x e = cc

no_outline_fault : OutlineFault marks.Object [] None
no_outline_fault n place told = no_entry place told.entry told.is

is_source : IsSource bare source
is_source = record { given = refl; parts = refl; named = refl; units = ([], record { no_fault = no_outline_fault; are = tt }) }

-- ---- the list of it

no_fault : list_fault 0 (source ∷ []) ≡ None
no_fault = refl

loaded : (m : Contents) (name : List ℕ) → get m name ≡ Some bytes → loaded_inputs m OBJECT_LIMIT FILE_LIMIT (name ∷ []) ≡ All (bytes ∷ [])
loaded m name holds = ap (after_content OBJECT_LIMIT 0 (λ text. inputs_from m OBJECT_LIMIT FILE_LIMIT ([] ++ text ∷ []) 1 [])) holds

-- the fault of the size of an image with these segments and entries
sized : Placed → Grouping → List ℕ → List ℕ → List Named → Option Fault
sized p grouping text datum named =
    size_fault (image_placed grouping (record { order = p.order; machine = p.machine; entry = p.entry; text = text; data_part = datum; bss = p.bss; named = named }))

small : (placed : Placed) (grouping : Grouping) → IsPlanned Keep 0 (source ∷ []) placed grouping → size_fault (image_placed grouping placed) ≡ None
unfolding sized
small placed grouping planned =
    let was = planned.is_placed in
    ap (λ (text : List ℕ). sized placed grouping text placed.data_part placed.named) was.text
    ∙ ap (λ (datum : List ℕ). sized placed grouping [] datum placed.named) was.data_part
    ∙ ap (λ (named : List Named). sized placed grouping [] [] named) was.named

bare-accepted : (m : Contents) (name : List ℕ) → get m name ≡ Some bytes → IsAcceptedList Keep 0 (name ∷ []) m
bare-accepted m name holds = record {
  sources = source ∷ [];
  are = record { texts = bytes ∷ []; loaded = loaded m name holds; objects = bare ∷ []; spelled = (spells, tt); are = (is_source, tt) };
  accepted = (accepted_exactly 0 (source ∷ [])).0 no_fault;
  fits = small;
}

-- ---- lists that are not accepted

each_none : {A B : Type 0} (Holds : A → B → Type 0) (ys : List B) → Each Holds [] ys → ys ≡ []
each_none Holds [] h = refl
each_none Holds (y ∷ ys) h = absurd h

no_sources : (m : Contents) (sources : List Source) → AreSources m [] sources → sources ≡ []
no_sources m sources are = by (let e : [] ≡ are.texts = cc in sym e)
  where
    by : are.texts ≡ [] → sources ≡ []
    by none = each_none IsSource sources (subst (λ os. Each IsSource os sources) (each_none Spells are.objects (subst (λ ts. Each Spells ts are.objects) none are.spelled)) are.are)

none-accepted : (mode : Mode) (base : ℕ) (m : Contents) → IsAcceptedList mode base [] m → ⊥
none-accepted mode base m list = list.accepted.some (no_sources m list.sources list.are)

missing : (m : Contents) (name : List ℕ) → get m name ≡ None → loaded_inputs m OBJECT_LIMIT FILE_LIMIT (name ∷ []) ≡ Lacking 0 cause.Absent
missing m name none = ap (after_content OBJECT_LIMIT 0 (λ text. inputs_from m OBJECT_LIMIT FILE_LIMIT ([] ++ text ∷ []) 1 [])) none

missing-accepted : (mode : Mode) (base : ℕ) (m : Contents) (name : List ℕ) → get m name ≡ None → IsAcceptedList mode base (name ∷ []) m → ⊥
missing-accepted mode base m name none list = let e : All list.are.texts ≡ Lacking 0 cause.Absent = sym list.are.loaded ∙ missing m name none in cc

-- ---- images

none-linked : (mode : Mode) (base : ℕ) (m : Contents) (image : Image) (world : World) → IsListImage mode base [] m image world → ⊥
none-linked mode base m image world is = ((accepted_exactly base is.sources).0 is.linked.planned.no_fault).some (no_sources m is.sources is.are)
