-- A credential is spelled by the bytes that it is read from, and is read back from its spelling.
use Rattle.krb_ccache.proofs.Cited.{arith, ◌≡◌, ℕ, List, [], ◌∷◌, ◌++◌, Some, refl, sym, ap, subst, ◌∙◌, append_assoc, Big, data32, cc_principal, IsBytes, some_is, Takes, Takes-then, IsField, data32_field, cc_principal_field, Version, CredParts, number32, typed_list, key, times, credential, FitsCredential, credential_at}
use Rattle.krb_ccache.proofs.Fields.{field32, byte_field, step, some_more, typed_list_field, key_field, times_field}

credential_takes : (v : Version) (bytes : List ℕ) (x : CredParts × List ℕ) → IsBytes bytes → credential_at v bytes ≡ Some x → Takes bytes (credential v x.0) x.1 × FitsCredential v x.0
unfolding credential_at
credential_takes v bytes x fits e =
    step cc_principal_field bytes _ x fits e (λ client r1 t1 f1 e1. step cc_principal_field r1 _ x t1.rest_fits e1 (λ server r2 t2 f2 e2.
    step (key_field v) r2 _ x t2.rest_fits e2 (λ k r3 t3 f3 e3. step times_field r3 _ x t3.rest_fits e3 (λ t r4 t4 f4 e4.
    step byte_field r4 _ x t4.rest_fits e4 (λ is_skey r5 t5 f5 e5. step field32 r5 _ x t5.rest_fits e5 (λ flags r6 t6 f6 e6.
    step typed_list_field r6 _ x t6.rest_fits e6 (λ addresses r7 t7 f7 e7. step typed_list_field r7 _ x t7.rest_fits e7 (λ authdata r8 t8 f8 e8.
    step (data32_field Big) r8 _ x t8.rest_fits e8 (λ ticket r9 t9 f9 e9. step (data32_field Big) r9 _ x t9.rest_fits e9 (λ second r10 t10 f10 e10.
    let P : CredParts × List ℕ → Type 0 = λ y. Takes bytes (credential v y.0) y.1 × FitsCredential v y.0 in
    let whole = Takes-then _ _ _ _ _ t1 (Takes-then _ _ _ _ _ t2 (Takes-then _ _ _ _ _ t3 (Takes-then _ _ _ _ _ t4 (Takes-then _ _ _ _ _ t5 (Takes-then _ _ _ _ _ t6 (Takes-then _ _ _ _ _ t7 (Takes-then _ _ _ _ _ t8 (Takes-then _ _ _ _ _ t9 t10)))))))) in
    subst P (some_is _ x e10) (whole, record { client = f1; server = f2; key = f3; times = f4; is_skey = f5; flags = f6; addresses = f7; authdata = f8; ticket = f9; second_ticket = f10 })))))))))))

ten_parts : (a b c d e f g h i j rest : List ℕ) → (a ++ (b ++ (c ++ (d ++ (e ++ (f ++ (g ++ (h ++ (i ++ j))))))))) ++ rest ≡ a ++ (b ++ (c ++ (d ++ (e ++ (f ++ (g ++ (h ++ (i ++ (j ++ rest)))))))))
ten_parts a b c d e f g h i j rest = simp append_assoc

credential_again : (v : Version) (c : CredParts) (rest : List ℕ) → FitsCredential v c → credential_at v (credential v c ++ rest) ≡ Some (c, rest)
unfolding credential_at
credential_again v c rest fits =
    ap (credential_at v) (ten_parts (cc_principal c.client) (cc_principal c.server) (key v c.key) (times c.times) (c.is_skey ∷ []) (number32 c.flags) (typed_list c.addresses) (typed_list c.authdata) (data32 Big c.ticket) (data32 Big c.second_ticket) rest)
    ∙ rw (
      cc_principal_field.again c.client _ fits.client,
      cc_principal_field.again c.server _ fits.server,
      (key_field v).again c.key _ fits.key,
      times_field.again c.times _ fits.times,
      field32.again c.flags _ fits.flags,
      typed_list_field.again c.addresses _ fits.addresses,
      typed_list_field.again c.authdata _ fits.authdata,
      (data32_field Big).again c.ticket _ fits.ticket,
      (data32_field Big).again c.second_ticket rest fits.second_ticket,
    ) refl

pub credential_field : (v : Version) → IsField (credential_at v) (credential v) (FitsCredential v)
credential_field v = search (arith, credential_takes, credential_again, some_more, cc_principal_field)

-- credentials that fit and have the same spelling are the same
pub same_spelling : (v : Version) (c d : CredParts) → FitsCredential v c → FitsCredential v d → credential v c ≡ credential v d → c ≡ d
same_spelling v c d fit_c fit_d same =
    let read : Some (c, []) ≡ Some (d, []) = sym (credential_again v c [] fit_c) ∙ ap (λ (b : List ℕ). credential_at v (b ++ [])) same ∙ credential_again v d [] fit_d in
    ap (λ (x : CredParts × List ℕ). x.0) (some_is (c, []) (d, []) read)
