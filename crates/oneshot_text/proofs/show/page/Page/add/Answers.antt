-- The line that was made is the text with a line feed.
use Rattle.std.specs.Io.KnownBytes.{Appends}
use Rattle.std.specs.Fmt.{with_newline}
use Rattle.oneshot_text.specs.Page.{held}
use Rattle.oneshot_text.proofs.Pages.{text_is, of_text}
use Rattle.oneshot_text.proofs.show.page.Page.add.Goals as goal

pub returns-in-Ok : goal.returns-in-Ok
returns-in-Ok g c =
    of_text (Appends (held (g.W.Write.contents c.args.output.now) c.args.self.now)
    (held (g.W.Write.contents c.add_line.new.output) c.add_line.new.self))
    c.add_line.result (with_newline (g.D.Display.output c.args.text)) c.writeln.new.self.bytes
    (text_is _ (λ line. line.bytes) (λ w bytes v is. is) c.clear.new.self c.writeln.new.self _ c.clear.ensures
    c.in-Ok.ensures.writes)
    c.add_line.ensures
