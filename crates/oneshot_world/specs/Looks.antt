-- What is left of a script: so many looks, and then a last call.
use Rattle.std.specs.Prelude.{List, ◌++◌, map, replicate}
use Rattle.std.specs.Option.{option_to_list}
use Rattle.oneshot_world.specs.Calls.{Call, Of_sender}
use Rattle.oneshot_world.specs.declared.calls.sender.Looks.{Looks}

abbrev pub looks_left : Looks → List Call
looks_left left = replicate left.looks (Of_sender left.look) ++ map Of_sender (option_to_list left.last)
