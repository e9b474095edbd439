-- What a writer and its page hold together.
use Rattle.std.specs.Prelude.{ℕ, List, Option}
use Rattle.std.specs.Io.KnownBytes.{append_known}
use Rattle.oneshot_text.specs.declared.show.page.Page.{Page}

-- the writer's bytes, if they are known, and then the lines that wait
abbrev pub held : Option (List ℕ) → Page → Option (List ℕ)
held written page = append_known written page.lines.bytes
