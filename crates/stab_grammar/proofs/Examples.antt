-- Worked values: where types begin in `(0,3)=*(0,2)`, and how deep; a variable, and two strings with and without a fault. The texts
-- are written by hand.
use Rattle.std.proofs.Common.{◌≡◌, ◌++◌, List, ℕ, [], ◌∷◌, codes, refl, sym, subst, arith, lit≤}
use Rattle.st_base.specs.declared.fault.Fault.{Fault}
use Rattle.st_base.specs.declared.fault.TheConstants.{END}
use Rattle.st_base.specs.Faults.{fault_at}
use Rattle.readers.specs.declared.fault.TextFault.TheVariants.{End}
use Rattle.readers.specs.Spelling.{Within}
use Rattle.stab_symbols.specs.declared.limits.TheConstants.{GREATEST_DEPTH}
use Rattle.stab_symbols.specs.declared.tree.Num.TheVariants.{Plain, Pair}
use Rattle.stab_symbols.specs.declared.tree.Descriptor.TheVariants as descriptors
use Rattle.stab_symbols.specs.declared.tree.Symbol.{Symbol}
use Rattle.stab_symbols.specs.declared.tree.TypeTree.TheVariants.{Ref, Def, Pointer}
use Rattle.stab_symbols.proofs.Examples.{levels, decimals}
use Rattle.stab_grammar.specs.Depth.{depths_of, depths_symbol}
use Rattle.stab_grammar.specs.StringFaults.{IsSpelling, IsStringFault}
use Rattle.stab_grammar.proofs.Whole.{not_both}

-- ---- where types begin, and how deep

-- `(0,3)=*(0,2)`: the definition, the pointer after `=`, and the number after `*`
depths_of-pointer : depths_of (Def (Pair 0 3) (Pointer (Ref (Pair 0 2)))) ≡ 1 ∷ (0 ∷ (0 ∷ (0 ∷ (0 ∷ (0 ∷ (2 ∷ (3 ∷ (0 ∷ (0 ∷ (0 ∷ (0 ∷ [])))))))))))
depths_of-pointer = simp (levels, decimals)

-- ---- spellings and faults

-- `i:1`, a variable on the stack
abbrev stacked : Symbol
stacked = record { name = codes "i"; descriptor = descriptors.Stack; tree = Ref (Plain 1) }

depths_symbol-stacked : depths_symbol stacked ≡ 0 ∷ (0 ∷ (1 ∷ []))
depths_symbol-stacked = simp (levels, decimals)

spelled-stacked : IsSpelling stacked (codes "i:1")
spelled-stacked = record {
  shaped = simp (levels, decimals);
  depth = subst (Within GREATEST_DEPTH) (sym depths_symbol-stacked) (lit≤ tt, (lit≤ tt, (lit≤ tt, tt)));
  spelled = simp (levels, decimals);
}

-- a string that is spelled so has no fault
no_fault-stacked : (fault : Fault) → IsStringFault (codes "i:1") fault → ⊥
no_fault-stacked fault is = not_both (codes "i:1") stacked fault spelled-stacked is

-- each spelling has a colon
has_colon : (name rest : List ℕ) → (name ++ 58 ∷ []) ++ rest ≡ [] → ⊥
has_colon [] rest e = cc
has_colon (b ∷ name) rest e = cc

-- the empty string ends before what it spells
fault-empty : IsStringFault [] (fault_at END 0)
fault-empty = record {
  first = End 0;
  is_first = ((refl, record { whole = stacked; is_shaped = spelled-stacked.shaped; more = codes "i:1"; spelled = sym spelled-stacked.spelled }, λ s shaped e. has_colon s.name _ e), λ other has. omega arith);
  told = refl;
}
