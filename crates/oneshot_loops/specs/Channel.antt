-- The name of each channel.
use Rattle.std.specs.Prelude.{ℕ, List, codes}
use Rattle.oneshot_loops.specs.declared.channels.Channel.{Channel}
use Rattle.oneshot_loops.specs.declared.channels.Channel.TheVariants.{Oneshot, Futures, Crossbeam}

abbrev pub channel_name : Channel → List ℕ
channel_name Oneshot = codes "oneshot"
channel_name Futures = codes "futures"
channel_name Crossbeam = codes "crossbeam"
