-- Worked sources: their tokens.
use Rattle.std.proofs.Common.{◌≡◌, ◌≢◌, ℕ, zero, List, [], ◌∷◌, ◌++◌, refl, ap, arith}
use Rattle.std.specs.Prelude.{codes}
use Rattle.c_tokens.specs.declared.kind.Kind.TheVariants as kind
use Rattle.c_tokens.specs.Scanning.{tokens, token}
use Rattle.c_tokens.specs.Tokens.{Token}

-- the number of the first token
abbrev first_number : List Token → ℕ
first_number [] = 0
first_number (t ∷ ts) = t.1.number

-- ---- names, numbers and marks

-- an array of `unsigned long int`
declaration : tokens (codes "static unsigned long int x1[10];") ≡
    token kind.Static [] 0 1 ∷ token kind.Basic [] 5 1 ∷ token kind.Name (codes "x1") 0 1 ∷ token kind.OpenBracket [] 0 1
    ∷ token kind.Number [] 10 1 ∷ token kind.CloseBracket [] 0 1 ∷ token kind.Semi [] 0 1 ∷ []
declaration = refl

-- digits and then letters are two tokens, letters and then digits are one
digits_first : tokens (codes "12ab ab12") ≡ token kind.Number [] 12 1 ∷ token kind.Name (codes "ab") 0 1 ∷ token kind.Name (codes "ab12") 0 1 ∷ []
digits_first = refl

-- a word within a longer name is none
longer_name : tokens (codes "struct_ union") ≡ token kind.Name (codes "struct_") 0 1 ∷ token kind.Struct [] 1 1 ∷ []
longer_name = refl

-- `0` is a number of its own, a leading zero is refused
zeros : tokens (codes "0 010") ≡ token kind.Zero [] 0 1 ∷ token kind.Bad [] 0 1 ∷ []
zeros = refl

largest : tokens (codes "2147483647 2147483648") ≡ token kind.Number [] 2147483647 1 ∷ token kind.Bad [] 0 1 ∷ []
largest = refl

-- a byte that begins no token, and a `/` that begins no comment
no_token : tokens (codes "a/b.") ≡ token kind.Name (codes "a") 0 1 ∷ token kind.Bad [] 0 1 ∷ token kind.Name (codes "b") 0 1 ∷ token kind.Bad [] 0 1 ∷ []
no_token = refl

-- ---- comments and lines

-- a comment separates, and its lines count
comment_of_two_lines : tokens (codes "a/*" ++ 10 ∷ codes "*/b" ++ 10 ∷ codes "c") ≡
    token kind.Name (codes "a") 0 1 ∷ token kind.Name (codes "b") 0 2 ∷ token kind.Name (codes "c") 0 3 ∷ []
comment_of_two_lines = refl

-- the `*` that opens a comment does not close it
closes_later : tokens (codes "/*/a*/b") ≡ token kind.Name (codes "b") 0 1 ∷ []
closes_later = refl

not_closed : tokens (codes "a" ++ 10 ∷ codes "/*/ b" ++ 10 ∷ codes "c") ≡ token kind.Name (codes "a") 0 1 ∷ token kind.Bad [] 0 2 ∷ []
not_closed = refl

stars : tokens (codes "/***/a/**/") ≡ token kind.Name (codes "a") 0 1 ∷ []
stars = refl

-- ---- includes

-- ` #include "a/*.h" `
include_line : tokens (codes " #include " ++ 34 ∷ codes "a/*.h" ++ 34 ∷ 32 ∷ 10 ∷ codes "b") ≡
    token kind.Include (codes "a/*.h") 0 1 ∷ token kind.Name (codes "b") 0 2 ∷ []
include_line = refl

-- `#include"x"`, the last line
last_line : tokens (codes ";" ++ 10 ∷ codes "#include" ++ 34 ∷ codes "x" ++ 34 ∷ []) ≡ token kind.Semi [] 0 1 ∷ token kind.Include (codes "x") 0 2 ∷ []
last_line = refl

-- `# include "x"`
apart : tokens (codes "# include " ++ 34 ∷ codes "x" ++ 34 ∷ []) ≡
    token kind.Bad [] 0 1 ∷ token kind.Name (codes "include") 0 1 ∷ token kind.Bad [] 0 1 ∷ token kind.Name (codes "x") 0 1 ∷ token kind.Bad [] 0 1 ∷ []
apart = refl

-- an empty name: `#include ""`
empty_name : tokens (codes "#include " ++ 34 ∷ 34 ∷ []) ≡ token kind.Bad [] 0 1 ∷ token kind.Name (codes "include") 0 1 ∷ token kind.Bad [] 0 1 ∷ token kind.Bad [] 0 1 ∷ []
empty_name = refl

-- the name ends on its line: `#include "x` and `y"` below it
over_two_lines : tokens (codes "#include " ++ 34 ∷ codes "x" ++ 10 ∷ codes "y" ++ 34 ∷ []) ≡
    token kind.Bad [] 0 1 ∷ token kind.Name (codes "include") 0 1 ∷ token kind.Bad [] 0 1 ∷ token kind.Name (codes "x") 0 1 ∷ token kind.Name (codes "y") 0 2
    ∷ token kind.Bad [] 0 2 ∷ []
over_two_lines = refl

-- a comment that ends on the line: `/**/#include "x"`
behind_a_comment : tokens (codes "/**/#include " ++ 34 ∷ codes "x" ++ 34 ∷ []) ≡
    token kind.Bad [] 0 1 ∷ token kind.Name (codes "include") 0 1 ∷ token kind.Bad [] 0 1 ∷ token kind.Name (codes "x") 0 1 ∷ token kind.Bad [] 0 1 ∷ []
behind_a_comment = refl

-- a comment that begins on the line: `#include "x"/**/`
before_a_comment : tokens (codes "#include " ++ 34 ∷ codes "x" ++ 34 ∷ codes "/**/") ≡
    token kind.Bad [] 0 1 ∷ token kind.Name (codes "include") 0 1 ∷ token kind.Bad [] 0 1 ∷ token kind.Name (codes "x") 0 1 ∷ token kind.Bad [] 0 1 ∷ []
before_a_comment = refl

-- ---- words of basic types

-- blanks, line feeds and comments do not end a run of them, and its line is that of the first
over_lines : tokens (codes "unsigned/**/" ++ 10 ∷ codes "char int;") ≡ token kind.Bad [] 0 1 ∷ token kind.Semi [] 0 2 ∷ []
over_lines = refl

two_runs : tokens (codes "long long,signed" ++ 10 ∷ codes "char") ≡ token kind.Basic [] 11 1 ∷ token kind.Comma [] 0 1 ∷ token kind.Basic [] 9 1 ∷ []
two_runs = refl

-- `void` is a word by itself
void_apart : tokens (codes "void int") ≡ token kind.Void [] 10 1 ∷ token kind.Basic [] 1 1 ∷ []
void_apart = refl

-- `signed` alone spells no type
signed_alone : tokens (codes "signed") ≢ token kind.Basic [] 1 1 ∷ []
signed_alone e = let number : zero ≡ 1 = ap first_number e in omega arith
