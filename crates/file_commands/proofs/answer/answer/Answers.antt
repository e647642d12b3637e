use Rattle.std.proofs.Common.{rules}
use Rattle.command_line.specs.declared.command.Command.TheVariants as commands
use Rattle.file_commands.specs.QueryOutcomes.{RepliesOnObject, Checks, Dumps}
use Rattle.file_commands.proofs.ReplyLemmas.{by_command, by_link, by_ask}
use Rattle.file_commands.proofs.answer.answer.Goals as goal

pub returns-in-Query : goal.returns-in-Query
returns-in-Query c =
    by_command c.args.command.now (commands.Query c.bytes.result.now c.in-Query.query) c.args.texts c.bytes.result.now c.first.result
    (RepliesOnObject c.bytes.result.now c.in-Query.query) c.query_file.result c.query_file.ensures c.first.ensures (search rules) (λ o said. said)

pub returns-in-Check : goal.returns-in-Check
returns-in-Check c =
    by_command c.args.command.now (commands.Check c.bytes-in-Check.result.now) c.args.texts c.bytes-in-Check.result.now c.first-in-Check.result
    (Checks c.bytes-in-Check.result.now) c.check_file.result c.check_file.ensures c.first-in-Check.ensures (search rules) (λ o said. said)

pub returns-in-Dump : goal.returns-in-Dump
returns-in-Dump c =
    by_command c.args.command.now (commands.Dump c.bytes-in-Dump.result.now) c.args.texts c.bytes-in-Dump.result.now c.first-in-Dump.result
    Dumps c.dump_file.result c.dump_file.ensures c.first-in-Dump.ensures (search rules) (λ o said. said)

pub returns-in-Link : goal.returns-in-Link
returns-in-Link c =
    by_link c.args.command.now c.in-Link.mode c.in-Link.base c.bytes-in-Link.result.now c.items.result.now c.args.texts c.link_files.result c.link_files.ensures (search rules)

pub returns-in-Ask : goal.returns-in-Ask
returns-in-Ask c =
    by_ask c.args.command.now c.in-Ask.query c.items-in-Ask.result.now c.args.texts c.ask_files.result c.ask_files.ensures (search rules)
