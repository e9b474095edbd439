-- The faults of an input whose bytes were all read.
use Rattle.std.proofs.Common.{Err, refl, sym, ap, ◌∙◌, subst, true≢false}
use Rattle.std.specs.Str.{IsAscii}
use Rattle.oneshot_text.specs.FirstFault.{HasFault}
use Rattle.oneshot_streams.proofs.Faults.{passed_on, no_text, no_request}
use Rattle.oneshot_streams.proofs.run.read_request.Goals as goal

pub returns-in_err-text_of-clause-faulty : goal.returns-in_err-text_of-clause-faulty
returns-in_err-text_of-clause-faulty g c =
    let other : ¬ (IsAscii c.in_ok-bytes.bytes.items) =
    λ ascii. true≢false (sym
    (c.in_err-text_of.ensures.ascii.1 (subst IsAscii (sym c.deref.ensures.value) ascii))) in
    passed_on _ c.in_err-text_of.field-0.0 c.from_residual-in_err-text_of.result
    c.from_residual-in_err-text_of.ensures.1
    (rw c.in_err-text_of.ensures.err
    (no_text (g.R.Read.remaining c.args.input.now) c.in_ok-bytes.bytes.items c.in_ok-bytes.ensures.whole
    c.in_ok-bytes.ensures.fits other))

pub returns-in_err-parse_request-clause-faulty : goal.returns-in_err-parse_request-clause-faulty
returns-in_err-parse_request-clause-faulty g c =
    let ascii : IsAscii c.in_ok-bytes.bytes.items =
    subst IsAscii c.deref.ensures.value (c.in_ok-text_of.ensures.ascii.0 refl) in
    passed_on _ _ c.from_residual-in_err-parse_request.result c.from_residual-in_err-parse_request.ensures.1
    (no_request (g.R.Read.remaining c.args.input.now) c.in_ok-bytes.bytes.items c.in_err-parse_request.field-0.0
    c.in_ok-bytes.ensures.whole c.in_ok-bytes.ensures.fits ascii
    (λ fault is. subst (λ text. HasFault text fault) (c.in_ok-text_of.ensures.text ∙ c.deref.ensures.value)
    (c.in_err-parse_request.ensures.faulty fault (ap (λ error. Err error) is))))
