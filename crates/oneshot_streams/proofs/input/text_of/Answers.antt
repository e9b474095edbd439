-- ASCII text is UTF-8, so `from_utf8` succeeds.
use Rattle.std.proofs.Common.{arith}
use Rattle.std.proofs.lemmas.Grind.{common_steps}
use Rattle.std.proofs.lemmas.Str.{IsUtf8-from_ascii}
use Rattle.oneshot_streams.proofs.input.text_of.Goals as goal

pub unwrap-requires : goal.unwrap-requires
unwrap-requires c = grind (arith, common_steps, IsUtf8-from_ascii c.args.bytes.now)
