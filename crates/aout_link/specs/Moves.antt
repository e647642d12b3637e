-- Where the segments of objects go, and how far they move. The text of all objects stands in order from the base address on, their
-- data behind it, and their bss behind that; each part is padded to a multiple of 4. That parts are padded so is this project's own.
use Rattle.std.specs.Prelude.{ℕ, ◌+◌, ◌-◌, ◌%◌, ◌^◌, List, [], ◌∷◌, ◌++◌, length, map}
use Rattle.std.specs.List.{sum_by}
use Rattle.st_base.specs.Multiples.{aligned}
use Rattle.aout_link.specs.Sources.{Source}
use Rattle.aout_link.specs.declared.moves.Moves.{Moves}
use Rattle.aout_link.specs.declared.moves.Starts.{Starts}
use Rattle.aout_link.specs.declared.moves.Totals.{Totals}

-- ---- sizes

-- the bytes that the text of an object takes in the image
abbrev pub text_size : Source → ℕ
text_size o = aligned (length o.parts.text)

-- those of its data
abbrev pub data_size : Source → ℕ
data_size o = aligned (length o.parts.data_part)

-- those of its bss
abbrev pub bss_size : Source → ℕ
bss_size o = aligned o.parts.bss

-- those of all objects together
abbrev pub totals_of : List Source → Totals
totals_of os = record { text = sum_by text_size os; datum = sum_by data_size os; bss = sum_by bss_size os }

-- ---- addresses

-- where text, data and bss of all objects begin
abbrev pub starts_of : ℕ → List Source → Starts
starts_of base os = record {
  text = base;
  datum = base + (totals_of os).text;
  bss = base + (totals_of os).text + (totals_of os).datum;
}

-- where those of an object begin, these objects standing before it
abbrev pub starts_behind : Starts → List Source → Starts
starts_behind s before = record {
  text = s.text + (totals_of before).text;
  datum = s.datum + (totals_of before).datum;
  bss = s.bss + (totals_of before).bss;
}

-- where those of an object were: text at its entry word, data right behind it, bss right behind that
abbrev pub starts_before : Source → Starts
starts_before o = record {
  text = o.parts.entry;
  datum = o.parts.entry + length o.parts.text;
  bss = o.parts.entry + length o.parts.text + length o.parts.data_part;
}

-- ---- moves

-- how far it is from an old address to a new one, modulo 2^32
abbrev pub moved : ℕ → ℕ → ℕ
moved old new = (new + (2 ^ 32 - old)) % 2 ^ 32

-- how far each segment moves
abbrev pub moves_between : Starts → Starts → Moves
moves_between old new = record { text = moved old.text new.text; datum = moved old.datum new.datum; bss = moved old.bss new.bss }

-- how far those of an object move, these objects standing before it
abbrev pub moves_of : Starts → List Source → Source → Moves
moves_of s before o = moves_between (starts_before o) (starts_behind s before)

-- each item of a list with what stands before it, some items standing before the whole list
abbrev pub fronts : {A : Type 0} → List A → List A → List (List A × A)
fronts before [] = []
fronts before (x ∷ xs) = (before, x) ∷ fronts (before ++ x ∷ []) xs

-- the moves of objects, some standing before them
abbrev pub moves_after : Starts → List Source → List Source → List Moves
moves_after s before os = map (λ p. moves_of s p.0 p.1) (fronts before os)

-- the moves of all objects, text beginning at the base address
abbrev pub all_moves : ℕ → List Source → List Moves
all_moves base os = moves_after (starts_of base os) [] os
