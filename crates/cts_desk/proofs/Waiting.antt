-- A connection of which nothing was taken waits for its first request.
use Rattle.std.proofs.Common.{ℕ, ◌≤◌, false, List, [], ◌∷◌, ◌++◌, length, refl, ap, ◌∙◌, arith, length-append, inl}
use Rattle.std.specs.List.{flat_map}
use Rattle.httparse.specs.Grammar.{LineEnd, crlf, lf, print_end, print_field, RequestHead, print_request, print_section, print_blank, print_version}
use Rattle.httparse.specs.Pieces.{BlankLines, Completes}
use Rattle.httparse.proofs.OpenLemmas.{line_blank, request_may_from_line}
use Rattle.cts_http.specs.Requests.{HasHead, Requests, Waiting}

end_long : (e : LineEnd) → 1 ≤ length (print_end e)
end_long crlf = omega arith
end_long lf = omega arith

-- a head is no empty text
head_long : (h : RequestHead) → 1 ≤ length (print_request h)
unfolding print_request
head_long h =
    let e = end_long h.last in
    let section = length-append (flat_map print_field h.fields) (print_end h.last) in
    let start = print_blank h.blank ++ h.method ++ 32 ∷ h.target ++ 32 ∷ print_version h.minor ++ print_end h.line_end in
    let whole = length-append start (print_section h.fields h.last) in
    omega (arith, e, section, whole)

no_head : (h : RequestHead) (after : List ℕ) → HasHead [] h after → ⊥
no_head h after x =
    let long = head_long h in
    let whole = ap length x.reads.1 ∙ length-append (print_request h) after in
    omega (arith, long, whole)

may_begin : Completes BlankLines []
may_begin = record { more = []; tree = []; reads = λ rest. refl }

-- no bytes are waited for
pub none_waited : Requests [] [] (Waiting [])
none_waited = (false, [], (refl, refl), (refl, refl, inl (record { none = no_head; may = request_may_from_line (inl (line_blank may_begin)); short = omega arith })))
