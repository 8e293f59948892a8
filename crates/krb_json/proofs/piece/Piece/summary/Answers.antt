use Rattle.krb_json.proofs.ForAnswers.{◌≡◌, integer_or_null, option_map, pos, rules, codes, ◌∷◌, [], on_ok_weaker, begin_object, end_object, key, string, boolean, number_of, text_member, name_text, member_tokens}
use Rattle.krb_json.proofs.Arrays.{chain}
use Rattle.krb_json.specs.Summary.{summary_value}
use Rattle.krb_json.proofs.piece.Piece.summary.Goals as goal

pub returns : goal.returns
unfolding summary_value
returns g c =
    let s = c.args.summary in
    let end : c.map.result ≡ option_map pos s.endtime = search rules in
    on_ok_weaker c.end_object.result (λ last.
    chain _ _ _ (begin_object ∷ []) _ c.in_ok-begin_object.ensures
    (chain _ _ _ (key (codes "file") ∷ string c.args.file.now ∷ []) _ c.in_ok-string.ensures
    (chain _ _ _ (key (codes "kind") ∷ string (codes "ccache") ∷ []) _ c.in_ok-string-2.ensures
    (chain _ _ _ (member_tokens (text_member (codes "default_principal") (name_text (g.N.Name.parts c.args.principal.now)))) _ c.in_ok-name.ensures
    (chain _ _ _ (member_tokens (codes "tickets", number_of s.tickets)) _ c.in_ok-number.ensures
    (chain _ _ _ (member_tokens (codes "endtime", integer_or_null (option_map pos s.endtime))) _ (rw end at c.in_ok-integer.ensures)
    (chain _ _ _ (key (codes "expired") ∷ boolean s.is_expired ∷ []) (end_object ∷ []) c.in_ok-boolean.ensures last))))))) c.end_object.ensures
