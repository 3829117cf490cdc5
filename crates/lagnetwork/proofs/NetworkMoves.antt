-- Cables are moved: what every event preserves holds on the cables as they are then.
use Rattle.lagnetwork.proofs.Common.{Bool, List, None, Option, Some, [], ap, append-nil, cond, eq-eqb, eqb, eqb-true, false, inl, inr, option_map}
use Rattle.lagnetwork.proofs.Common.{refl, subst, sym, true, ℕ, ◌&&◌, ◌∙◌, ◌≡◌, ◌⊎◌, and_from, and_parts, cases_Bool, true≢false, none-some}
use Rattle.lagnetwork.proofs.Common.{IsSubsequence, Conversation, DistributorFacts, Message, Side, party_at, cond_false, cond_true, Lanes, Every}
use Rattle.lagnetwork.proofs.Common.{Orderly, handed_front, Fresh, IsNetworkSetup, Moved, Network, NetworkEvent, NetworkSetup, Place, at_place}
use Rattle.lagnetwork.proofs.Common.{is_end, is_place, moved_of, recabled, with_cable_moved}
use native.Mathlib.Omega.{arith}
use Rattle.lagnetwork.proofs.NetworkLines.{SeenAlike, at_far, ends_of, is_place-some, out_of, place_parts, same_bool, same_near, some-is_place}
use Rattle.lagnetwork.proofs.Networks.{AllFine, FineIn, less_part}

-- the ends of a cable
end_other : (x : NetworkSetup) → IsNetworkSetup x → (s p t q r c : ℕ) → x.far t q ≡ Some (record { system = r; port = c })
    → is_end x s p t q ≡ true → is_end x s p r c ≡ true
end_other x f s p t q r c h e = grind (arith, cases_Bool, eqb, and_parts, is_place, some-is_place, eqb-true, cond_false, same_near, is_place-some, and_from, eq-eqb)

pub end_alike : (x : NetworkSetup) → IsNetworkSetup x → (s p t q r c : ℕ) → x.far t q ≡ Some (record { system = r; port = c })
    → is_end x s p t q ≡ is_end x s p r c
end_alike x f s p t q r c h = same_bool (is_end x s p t q) (is_end x s p r c) (end_other x f s p t q r c h)
    (end_other x f s p r c t q (f.cables t q r c h))

-- a line that holds nothing, whatever the port
blank : {me : Side} {g k : ℕ} {e e' : Option ℕ} {c : Conversation} {out back : List Message} {sent collected : List ℕ}
    → Orderly me g k e c out back sent collected → Orderly me g k e' c [] [] sent collected
blank {sent = sent} {collected} i = record {
  place = inl refl;
  behind = λ p n f x. tt;
  answered = λ p n f x. tt;
  in_order = subst (λ l. IsSubsequence l sent) (sym (append-nil collected)) (handed_front i);
}

-- some cables are others, and nothing is on them
lanes_recabled : {me : Side} {ends : ℕ → Option ℕ} {f : DistributorFacts} {out back : ℕ → List Message} {whole : ℕ → Bool}
    {sent collected : ℕ → ℕ → List ℕ} {forced : ℕ → ℕ → Bool} → Lanes me ends f out back whole sent collected forced
    → (ends' : ℕ → Option ℕ) → ((c : ℕ) → ((out c ≡ []) × (back c ≡ [])) ⊎ (ends' c ≡ ends c))
    → Lanes me ends' f out back whole sent collected forced
lanes_recabled {me} {ends} {f} {out} {back} {whole} {sent} {collected} {forced} i ends' h = record {
  waits = i.waits;
  markers = i.markers;
  responses = i.responses;
  origin = i.origin;
  cut = i.cut;
  orderly = λ g k c u. elim (h c) [
    | inl y ↦ subst (λ l. Orderly me g k (ends' c) (f.state g k) l (back c) (sent g k) (collected g k)) (sym y.0)
        (subst (λ l. Orderly me g k (ends' c) (f.state g k) [] l (sent g k) (collected g k)) (sym y.1) (blank (i.orderly g k c u)))
    | inr y ↦ subst (λ e. Orderly me g k e (f.state g k) (out c) (back c) (sent g k) (collected g k)) (sym y) (i.orderly g k c u)
  ];
}

-- These ends have other cables, or none, towards one another; nothing is on them, and each is whole or not.
module _ (x : NetworkSetup) (far' : ℕ → ℕ → Option Place) (ends : ℕ → ℕ → Bool) (whole : Bool)
    (away : (t q : ℕ) → ends t q ≡ false → far' t q ≡ x.far t q)
    (apart : (t q r c : ℕ) → ends t q ≡ false → x.far t q ≡ Some (record { system = r; port = c }) → ends r c ≡ false)
    (within : (t q r c : ℕ) → ends t q ≡ true → far' t q ≡ Some (record { system = r; port = c }) → ends r c ≡ true)
    (w : Network) (moved : ℕ → ℕ → Moved) (i : AllFine x w) where
  abbrev x' : NetworkSetup
  x' = record x { far = far' }

  abbrev whole' : ℕ → ℕ → Bool
  whole' t q = cond (ends t q) whole (w.whole t q)

  abbrev towards' : ℕ → ℕ → List Message
  towards' t q = cond (ends t q) [] (w.towards t q)

  parts : (r c : ℕ) → ((out_of x' towards' r c ≡ []) × (towards' r c ≡ []))
      ⊎ ((ends_of x' r c ≡ ends_of x r c) × (out_of x' towards' r c ≡ out_of x w.towards r c) × (towards' r c ≡ w.towards r c)
      × (whole' r c ≡ w.whole r c))
  parts r c = elim (cases_Bool (ends r c)) [
    | inl e ↦ inl (none (far' r c) refl e, cond_true (ends r c) [] (w.towards r c) e)
    | inr e ↦ inr (
      ap (option_map (λ (a : Place). c)) (away r c e),
      ap (at_far towards') (away r c e) ∙ same (x.far r c) refl e,
      cond_false (ends r c) [] (w.towards r c) e,
      cond_false (ends r c) whole (w.whole r c) e,
    )
  ]
    where
      none : (o : Option Place) → far' r c ≡ o → ends r c ≡ true → at_far towards' o ≡ []
      none None h e = refl
      none (Some a) h e = cond_true (ends a.system a.port) [] (w.towards a.system a.port) (within r c a.system a.port e h)

      same : (o : Option Place) → x.far r c ≡ o → ends r c ≡ false → at_far towards' o ≡ at_far w.towards o
      same None h e = refl
      same (Some a) h e = cond_false (ends a.system a.port) [] (w.towards a.system a.port) (apart r c a.system a.port e h)

  each_moved : (r : ℕ) → FineIn x' (λ s. party_at (w.view s)) (record w { whole = whole'; towards = towards'; moved = moved }) r
  each_moved r = let f = less_part (i.each r) (out_of x' towards' r) (towards' r) (whole' r)
      (λ c. elim (parts r c) [ inl y ↦ inr (inl y.0) | inr y ↦ inl y.1 ]) (λ c. elim (parts r c) [ inl y ↦ inr (inl y.1) | inr y ↦ inl y.2 ])
      (λ c n. elim (parts r c) [ inl y ↦ y.0 | inr y ↦ y.1 ∙ (i.each r).lanes.cut c (sym y.3 ∙ n) ]) in record {
        members = f.members;
        heard = f.heard;
        apart = f.apart;
        last = f.last;
        names = f.names;
        lanes = lanes_recabled f.lanes (ends_of x' r) (λ c. elim (parts r c) [ inl y ↦ inl y | inr y ↦ inr y.0 ]);
        stamps = record {
          flight = λ c p e. elim (parts r c) [
            | inl y ↦ subst (Every (Fresh (w.count r p) (party_at (w.view r) p))) (sym y.0) tt
            | inr y ↦ f.stamps.flight c p (sym y.0 ∙ e)
          ];
          last = λ c p q m e n. absurd (none-some q n);
        };
      }

  pub moved_kept : AllFine x' (record w { whole = whole'; towards = towards'; moved = moved })
  moved_kept = record { alike = alike; each = each_moved }
    where
      alike : SeenAlike x' whole'
      alike t q r c h = elim (cases_Bool (ends t q)) [
        | inl e ↦ cond_true (ends t q) whole (w.whole t q) e ∙ sym (cond_true (ends r c) whole (w.whole r c) (within t q r c e h))
        | inr e ↦ (let there : x.far t q ≡ Some (record { system = r; port = c }) = sym (away t q e) ∙ h in
            cond_false (ends t q) whole (w.whole t q) e ∙ i.alike t q r c there
            ∙ sym (cond_false (ends r c) whole (w.whole r c) (apart t q r c e there)))
      ]

-- a cable is taken out
module _ (x : NetworkSetup) (f : IsNetworkSetup x) (s p : ℕ) where
  pub pull_away : (t q : ℕ) → is_end x s p t q ≡ false → (recabled x (NetworkEvent.Pull s p)).far t q ≡ x.far t q
  pull_away t q e = cond_false (is_end x s p t q) None (x.far t q) e

  pull_apart : (t q r c : ℕ) → is_end x s p t q ≡ false → x.far t q ≡ Some (record { system = r; port = c }) → is_end x s p r c ≡ false
  pull_apart t q r c e h = sym (end_alike x f s p t q r c h) ∙ e

  pub pull_setup : IsNetworkSetup (recabled x (NetworkEvent.Pull s p))
  pull_setup = record { setup = f.setup; cables = cables }
    where
      cables : (t q r c : ℕ) → cond (is_end x s p t q) None (x.far t q) ≡ Some (record { system = r; port = c })
          → cond (is_end x s p r c) None (x.far r c) ≡ Some (record { system = t; port = q })
      cables t q r c h = elim (cases_Bool (is_end x s p t q)) [
        | inl e ↦ absurd (none-some (record { system = r; port = c }) (sym (cond_true (is_end x s p t q) None (x.far t q) e) ∙ h))
        | inr e ↦ (let there : x.far t q ≡ Some (record { system = r; port = c }) =
            sym (cond_false (is_end x s p t q) None (x.far t q) e) ∙ h in
            cond_false (is_end x s p r c) None (x.far r c) (pull_apart t q r c e there) ∙ f.cables t q r c there)
      ]

  pub pulled_kept : (w : Network) → AllFine x w → AllFine (recabled x (NetworkEvent.Pull s p)) (with_cable_moved x false s p w)
  pulled_kept w i = moved_kept x (λ t q. cond (is_end x s p t q) None (x.far t q)) (is_end x s p) false pull_away pull_apart
      (λ t q r c e h. absurd (none-some (record { system = r; port = c }) (sym (cond_true (is_end x s p t q) None (x.far t q) e) ∙ h)))
      w (λ t q. cond (is_end x s p t q) (moved_of ((w.view t).port q)) (w.moved t q)) i

-- the function at this place, or elsewhere
place_cases : {X : Type 0} (f : ℕ → ℕ → X) (s p : ℕ) (y : X) (t q : ℕ)
    → ((t ≡ s) × (q ≡ p) × (at_place f s p y t q ≡ y)) ⊎ (((t ≡ s) × (q ≡ p) → ⊥) × (at_place f s p y t q ≡ f t q))
place_cases f s p y t q = grind arith

place_at : (s p t q : ℕ) → s ≡ t → p ≡ q → ◌≡◌ {A = Option Place} (Some (record { system = s; port = p })) (Some (record { system = t; port = q }))
place_at s p t q e h i = Some (record { system = e i; port = h i })

-- two ports without a cable get one
module _ (x : NetworkSetup) (f : IsNetworkSetup x) (s p t q : ℕ) (none : x.far s p ≡ None) (free : x.far t q ≡ None) where
  abbrev after : NetworkSetup
  after = recabled x (NetworkEvent.Plug s p t q)

  plug_there : after.far s p ≡ Some (record { system = t; port = q })
  plug_there = elim (place_cases (at_place x.far s p (Some (record { system = t; port = q }))) t q (Some (record { system = s; port = p })) s p) [
    | inl y ↦ y.2 ∙ place_at s p t q y.0 y.1
    | inr y ↦ y.1 ∙ elim (place_cases x.far s p (Some (record { system = t; port = q })) s p) [ inl z ↦ z.2 | inr z ↦ absurd (z.0 (refl, refl)) ]
  ]

  plug_cases : (a b : ℕ) → ((a ≡ t) × (b ≡ q) × (after.far a b ≡ Some (record { system = s; port = p })))
      ⊎ (((a ≡ s) × (b ≡ p) × (after.far a b ≡ Some (record { system = t; port = q })))
      ⊎ (((a ≡ t) × (b ≡ q) → ⊥) × ((a ≡ s) × (b ≡ p) → ⊥) × (after.far a b ≡ x.far a b)))
  plug_cases a b = elim (place_cases (at_place x.far s p (Some (record { system = t; port = q }))) t q (Some (record { system = s; port = p })) a b) [
    | inl y ↦ inl y
    | inr y ↦ elim (place_cases x.far s p (Some (record { system = t; port = q })) a b) [
      | inl z ↦ inr (inl (z.0, z.1, y.1 ∙ z.2))
      | inr z ↦ inr (inr (y.0, z.0, y.1 ∙ z.1))
    ]
  ]

  end_is : (a b : ℕ) → is_end after s p a b ≡ true → ((a ≡ s) × (b ≡ p)) ⊎ ((a ≡ t) × (b ≡ q))
  end_is a b e = elim (cases_Bool (eqb a s && eqb b p)) [
    | inl y ↦ (let h = and_parts (eqb a s) (eqb b p) y in inl (eqb-true a s h.0, eqb-true b p h.1))
    | inr y ↦ (let h = place_parts (record { system = t; port = q }) (record { system = a; port = b }) (sym plug_there ∙ is_place-some (after.far s p) a b
        (sym (cond_false (eqb a s && eqb b p) true (is_place (after.far s p) a b) y) ∙ e)) in inr (sym h.0, sym h.1))
  ]

  is_one_end : (a b : ℕ) → ((a ≡ s) × (b ≡ p)) ⊎ ((a ≡ t) × (b ≡ q)) → is_end after s p a b ≡ true
  is_one_end a b h = elim h [
    | inl y ↦ cond_true (eqb a s && eqb b p) true (is_place (after.far s p) a b)
        (and_from (eqb a s) (eqb b p) (eq-eqb a s y.0) (eq-eqb b p y.1))
    | inr y ↦ either (eqb a s && eqb b p) (is_place (after.far s p) a b)
        (some-is_place (after.far s p) a b (plug_there ∙ place_at t q a b (sym y.0) (sym y.1)))
  ]
    where
      either : (b c : Bool) → c ≡ true → cond b true c ≡ true
      either true c e = refl
      either false c e = e

  pub plug_away : (a b : ℕ) → is_end after s p a b ≡ false → after.far a b ≡ x.far a b
  plug_away a b e = elim (plug_cases a b) [
    | inl y ↦ absurd (true≢false (sym (is_one_end a b (inr (y.0, y.1))) ∙ e))
    | inr y ↦ elim y [ inl z ↦ absurd (true≢false (sym (is_one_end a b (inl (z.0, z.1))) ∙ e)) | inr z ↦ z.2 ]
  ]

  -- neither of the two had a cable
  bare : (a b r c : ℕ) → x.far a b ≡ Some (record { system = r; port = c }) → ((r ≡ s) × (c ≡ p)) ⊎ ((r ≡ t) × (c ≡ q)) → ⊥
  bare a b r c h o = let back = f.cables a b r c h in
      elim o [
        | inl y ↦ none-some (record { system = a; port = b }) (sym none ∙ (λ i. x.far (sym y.0 i) (sym y.1 i)) ∙ back)
        | inr y ↦ none-some (record { system = a; port = b }) (sym free ∙ (λ i. x.far (sym y.0 i) (sym y.1 i)) ∙ back)
      ]

  pub plug_setup : IsNetworkSetup after
  plug_setup = record { setup = f.setup; cables = cables }
    where
      cables : (a b r c : ℕ) → after.far a b ≡ Some (record { system = r; port = c }) → after.far r c ≡ Some (record { system = a; port = b })
      cables a b r c h = elim (plug_cases a b) [
        | inl y ↦ (let m = place_parts (record { system = s; port = p }) (record { system = r; port = c }) (sym y.2 ∙ h) in
            (λ i. after.far (sym m.0 i) (sym m.1 i)) ∙ plug_there ∙ place_at t q a b (sym y.0) (sym y.1))
        | inr y ↦ elim y [
          | inl z ↦ (let m = place_parts (record { system = t; port = q }) (record { system = r; port = c }) (sym z.2 ∙ h) in elim (plug_cases r c) [
            | inl k ↦ k.2 ∙ place_at s p a b (sym z.0) (sym z.1)
            | inr k ↦ elim k [ inl n ↦ n.2 ∙ place_at t q a b (m.0 ∙ n.0 ∙ sym z.0) (m.1 ∙ n.1 ∙ sym z.1) | inr n ↦ absurd (n.0 (sym m.0, sym m.1)) ]
          ])
          | inr z ↦ (let there : x.far a b ≡ Some (record { system = r; port = c }) = sym z.2 ∙ h in elim (plug_cases r c) [
            | inl k ↦ absurd (bare a b r c there (inr (k.0, k.1)))
            | inr k ↦ elim k [ inl n ↦ absurd (bare a b r c there (inl (n.0, n.1))) | inr n ↦ n.2 ∙ f.cables a b r c there ]
          ])
        ]
      ]

  pub plugged_kept : (w : Network) → AllFine x w → AllFine after (with_cable_moved after true s p w)
  plugged_kept w i = moved_kept x after.far (is_end after s p) true plug_away apart within w
      (λ a b. cond (is_end after s p a b) (moved_of ((w.view a).port b)) (w.moved a b)) i
    where
      apart : (a b r c : ℕ) → is_end after s p a b ≡ false → x.far a b ≡ Some (record { system = r; port = c }) → is_end after s p r c ≡ false
      apart a b r c e h = elim (cases_Bool (is_end after s p r c)) [ inl y ↦ absurd (bare a b r c h (end_is r c y)) | inr y ↦ y ]

      within : (a b r c : ℕ) → is_end after s p a b ≡ true → after.far a b ≡ Some (record { system = r; port = c }) → is_end after s p r c ≡ true
      within a b r c e h = elim (plug_cases a b) [
        | inl y ↦ (let m = place_parts (record { system = s; port = p }) (record { system = r; port = c }) (sym y.2 ∙ h) in is_one_end r c (inl (sym m.0, sym m.1)))
        | inr y ↦ elim y [
          | inl z ↦ (let m = place_parts (record { system = t; port = q }) (record { system = r; port = c }) (sym z.2 ∙ h) in is_one_end r c (inr (sym m.0, sym m.1)))
          | inr z ↦ elim (end_is a b e) [ inl k ↦ absurd (z.1 k) | inr k ↦ absurd (z.0 k) ]
        ]
      ]
