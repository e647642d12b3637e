-- How much is left to be read falls with each step: a header's tokens wait until it begins.
use Rattle.std.proofs.Common.{◌≡◌, ◌<◌, ◌≤◌, ℕ, zero, suc, ◌+◌, List, [], ◌∷◌, length, Some, ap, arith}
use Rattle.std.specs.Prelude.{slice_get, slice_set}
use Rattle.c_tokens.specs.Tokens.{Token}
use Rattle.c_tokens.specs.Scanning.{tokens}
use Rattle.cdecl_producer.specs.declared.source.Source.{Source}
use Rattle.cdecl_producer.specs.declared.source.Progress.{Progress}
use Rattle.cdecl_producer.specs.declared.source.Progress.TheVariants.{Unread, Open, Done}
use Rattle.cdecl_producer.specs.Files.{Around, tokens_at}

-- what a file waits with that was not read
abbrev weight : Progress → ℕ → ℕ
weight Unread n = suc n
weight Open n = 0
weight Done n = 0

abbrev pub waiting : List Source → List Progress → ℕ
waiting fs [] = 0
waiting [] (x ∷ xs) = weight x 0 + waiting [] xs
waiting (f ∷ fs) (x ∷ xs) = weight x (length (tokens f.text)) + waiting fs xs

-- what is left of the files around
abbrev pub left_around : List Around → ℕ
left_around [] = 0
left_around (a ∷ rest) = suc (length a.left) + left_around rest

-- all that is left
abbrev pub load : List Source → List Around → List Token → List Progress → ℕ
load fs outer ts xs = length ts + (left_around outer + waiting fs xs)

open_waits : (fs : List Source) (xs : List Progress) (p : ℕ) → slice_get xs p ≡ Some Unread
    → waiting fs (slice_set xs p Open) + suc (length (tokens_at p fs)) ≡ waiting fs xs
open_waits fs [] p e = absurd cc
open_waits [] (x ∷ xs) zero e = let h : x ≡ Unread = cc in rw h (omega arith)
open_waits (f ∷ fs) (x ∷ xs) zero e = let h : x ≡ Unread = cc in rw h (omega arith)
open_waits [] (x ∷ xs) (suc p) e = let h = open_waits [] xs p e in omega arith
open_waits (f ∷ fs) (x ∷ xs) (suc p) e = let h = open_waits fs xs p e in omega arith

done_waits : (fs : List Source) (xs : List Progress) (p : ℕ) → waiting fs (slice_set xs p Done) ≤ waiting fs xs
done_waits fs [] p = omega arith
done_waits [] (x ∷ xs) zero = omega arith
done_waits (f ∷ fs) (x ∷ xs) zero = omega arith
done_waits [] (x ∷ xs) (suc p) = let h = done_waits [] xs p in omega arith
done_waits (f ∷ fs) (x ∷ xs) (suc p) = let h = done_waits fs xs p in omega arith

-- a header begins
pub begin_falls : (fs : List Source) (outer : List Around) (ts us : List Token) (t : Token) (xs ys : List Progress) (a : Around)
    → ts ≡ t ∷ us → a.left ≡ us → slice_get xs a.header ≡ Some Unread → ys ≡ slice_set xs a.header Open
    → load fs (a ∷ outer) (tokens_at a.header fs) ys < load fs outer ts xs
begin_falls fs outer ts us t xs ys a e l at now =
    let w = open_waits fs xs a.header at in
    let n : length ts ≡ suc (length us) = ap (λ y. length y) e in
    let m : length a.left ≡ length us = ap (λ y. length y) l in
    rw now (omega (arith, w, n, m))

-- a header ends
pub end_falls : (fs : List Source) (outer : List Around) (a : Around) (xs ys : List Progress) → ys ≡ slice_set xs a.header Done
    → load fs outer a.left ys < load fs (a ∷ outer) [] xs
end_falls fs outer a xs ys now = let w = done_waits fs xs a.header in rw now (omega (arith, w))
