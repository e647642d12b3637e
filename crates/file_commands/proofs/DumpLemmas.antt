-- The rows of bytes from one of them on.
use Rattle.std.proofs.Common.{◌≡◌, ◌<◌, ℕ, suc, ◌+◌, ◌-◌, ◌*◌, List, ◌++◌, take, drop, ap, sym, ◌∙◌, arith}
use Rattle.std.proofs.lemmas.List.{append_assoc, drop-drop}
use Rattle.file_commands.specs.Dump.{row_line, rows_from}

-- a row, and the rows behind it
pub rows_next : (row rows address : ℕ) (bytes : List ℕ) → row < rows
    → rows_from (rows - row) (address + 16 * row) (drop (16 * row) bytes)
    ≡ row_line (address + 16 * row) (take 16 (drop (16 * row) bytes)) ++ rows_from (rows - (row + 1)) (address + 16 * (row + 1)) (drop (16 * (row + 1)) bytes)
rows_next row rows address bytes less =
    let count : rows - row ≡ suc (rows - (row + 1)) = omega (arith, less) in
    let at : address + 16 * row + 16 ≡ address + 16 * (row + 1) = omega arith in
    let behind : drop 16 (drop (16 * row) bytes) ≡ drop (16 * (row + 1)) bytes =
    drop-drop 16 (16 * row) bytes ∙ ap (λ (n : ℕ). drop n bytes) {x = 16 * row + 16} {y = 16 * (row + 1)} (omega arith) in
    ap (λ (n : ℕ). rows_from n (address + 16 * row) (drop (16 * row) bytes)) count
    ∙ ap (λ (a : ℕ). row_line (address + 16 * row) (take 16 (drop (16 * row) bytes)) ++ rows_from (rows - (row + 1)) a (drop 16 (drop (16 * row) bytes))) at
    ∙ ap (λ (b : List ℕ). row_line (address + 16 * row) (take 16 (drop (16 * row) bytes)) ++ rows_from (rows - (row + 1)) (address + 16 * (row + 1)) b) behind

-- with one row more printed, fewer are to come
pub rows_step : (out next whole shown : List ℕ) (row rows address at : ℕ) (bytes : List ℕ) → row < rows
    → out ++ rows_from (rows - row) (address + 16 * row) (drop (16 * row) bytes) ≡ whole
    → next ≡ out ++ row_line at shown → at ≡ address + 16 * row → shown ≡ take 16 (drop (16 * row) bytes)
    → next ++ rows_from (rows - (row + 1)) (address + 16 * (row + 1)) (drop (16 * (row + 1)) bytes) ≡ whole
rows_step out next whole shown row rows address at bytes less before printed place is =
    let behind = rows_from (rows - (row + 1)) (address + 16 * (row + 1)) (drop (16 * (row + 1)) bytes) in
    let line : row_line at shown ≡ row_line (address + 16 * row) (take 16 (drop (16 * row) bytes)) =
    ap (λ (a : ℕ). row_line a shown) place ∙ ap (row_line (address + 16 * row)) is in
    ap (λ (z : List ℕ). z ++ behind) (printed ∙ ap (λ (z : List ℕ). out ++ z) line)
    ∙ append_assoc out (row_line (address + 16 * row) (take 16 (drop (16 * row) bytes))) behind
    ∙ ap (λ (z : List ℕ). out ++ z) (sym (rows_next row rows address bytes less)) ∙ before
