-- Which token a value of the code is.
use Rattle.strtab.specs.StringTable.{HasNoZero}
use Rattle.asm_statements.specs.Tokens.{Token}
use Rattle.asm_statements.specs.Tokens.Token.{Word, Str, Mark}
use Rattle.asm_statements.specs.declared.token.Kind.{Kind}
use Rattle.asm_statements.specs.declared.token.Kind.TheVariants as kind

abbrev pub token_of : Kind → Token
token_of (kind.Word w) = Word w.now
token_of (kind.Str s) = Str s
token_of (kind.Mark m) = Mark m

-- a word has no zero byte
abbrev pub KindFits : Kind → Type 0
KindFits (kind.Word w) = HasNoZero w.now
KindFits (kind.Str s) = Unit {0}
KindFits (kind.Mark m) = Unit {0}
