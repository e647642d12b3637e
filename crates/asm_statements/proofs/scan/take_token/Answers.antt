use Rattle.std.proofs.Common.{ap, sym, ◌∙◌}
use Rattle.asm_statements.specs.Tokens.{with_token, tokens}
use Rattle.asm_statements.proofs.ScanLemmas.{comment_taken, word_taken, word_fits}
use Rattle.asm_statements.proofs.scan.take_token.Goals as goal

pub returns-then-byte-eq35-clause-read : goal.returns-then-byte-eq35-clause-read
returns-then-byte-eq35-clause-read c = comment_taken c.args.bytes.now c.requires c.if-byte-eq35.true

pub word-requires : goal.word-requires
word-requires c =
    word_fits c.args.bytes.now c.split_at.result.0.now c.split_at.result.1.now c.word_end-end.result c.in_word.result c.requires c.in_word.ensures c.if-in_word.true
    c.word_end-end.ensures.value c.split_at.ensures.front c.split_at.ensures.back

pub returns-then-in_word-clause-read : goal.returns-then-in_word-clause-read
returns-then-in_word-clause-read c =
    word_taken c.args.bytes.now c.split_at.result.0.now c.split_at.result.1.now c.word_end-end.result c.in_word.result c.requires c.in_word.ensures c.if-in_word.true
    c.word_end-end.ensures.value c.split_at.ensures.front c.split_at.ensures.back ∙ ap (λ t. with_token t (tokens c.split_at.result.1.now)) (sym c.word.ensures)
