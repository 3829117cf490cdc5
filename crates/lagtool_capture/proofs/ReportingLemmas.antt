-- From the steps of an explanation to the whole.
use Rattle.lagtool_capture.proofs.Common.{Err, Ok, OnOk, Option, Result, ap, ℕ, ◌∙◌, ◌≡◌, Lacpdu, LinkEnd, SlowFrame, end_of, Identity, end_index}
use Rattle.lagtool_capture.proofs.Common.{identity_of, ReportState, after_indexed, last_shown, name_number, named, with_end, with_line}
use Rattle.lagtool_capture.specs.Reporting.{after_lacpdu}
use Rattle.lagtool_capture.specs.Reporting.{after_named}
use Rattle.lagtool_capture.specs.declared.lacpdu_texts.ShownFields.{ShownFields}
use Rattle.lagtool_capture.specs.LacpduTexts.{shown_of}
use Rattle.lagtool_capture.specs.declared.line.WhatText.TheVariants as what

pub on_ok-map : {T E P Q : Type 0} (r : Result T E) → (P → Q) → OnOk r P → OnOk r Q
on_ok-map (Ok x) f p = f p
on_ok-map (Err e) f p = tt

-- an LACPDU, once its line is added
pub indexed : {T E : Type 0} (r : Result T E) (index m n time : Option ℕ) (e : SlowFrame) (v : Lacpdu) (s t w : ReportState)
    (last : Option Lacpdu) (shown : ShownFields) (d : LinkEnd)
    → d ≡ end_of e → index ≡ end_index s.ends d → last ≡ last_shown s index → shown ≡ shown_of last v
    → t ≡ with_line time e (what.Lacpdu (record { lacpdu = v; shown = shown; actor = m; partner = n })) s
    → OnOk r (w ≡ with_end index d time v t) → OnOk r (w ≡ after_named m n time e v s)
unfolding after_named
indexed r index m n time e v s t w last shown d same p q x y h =
    let is : shown ≡ shown_of (last_shown s index) v = x ∙ ap (λ l. shown_of l v) q in
    on_ok-map r (λ i. i
    ∙ ap (λ k. with_end index k time v t) same ∙ ap (with_end index (end_of e) time v) (y ∙ ap (λ k. with_line time e (what.Lacpdu (record { lacpdu = v; shown = k; actor = m; partner = n })) s) is)
    ∙ ap (λ k. after_indexed k m n time e v s) (p ∙ ap (end_index s.ends) same)) h

-- an LACPDU, once its ends are named
pub both_named : {T E : Type 0} (r : Result T E) (a b : Identity) (m n time : Option ℕ) (e : SlowFrame) (v : Lacpdu) (s t u w : ReportState)
    → a ≡ identity_of v.actor → b ≡ identity_of v.partner → t ≡ named a s → m ≡ name_number a s → u ≡ named b t → n ≡ name_number b t
    → OnOk r (w ≡ after_named m n time e v u) → OnOk r (w ≡ after_lacpdu time e v s)
unfolding after_lacpdu
both_named r a b m n time e v s t u w f g p q x y h = let c = identity_of v.actor in
    let d = identity_of v.partner in
    let first : t ≡ named c s = p ∙ ap (λ k. named k s) f in
    on_ok-map r (λ i. i
    ∙ ap (λ k. after_named k n time e v u) (q ∙ ap (λ k. name_number k s) f)
    ∙ ap (λ k. after_named (name_number c s) k time e v u) (y ∙ ap (λ k. name_number k t) g ∙ ap (name_number d) first)
    ∙ ap (λ k. after_named (name_number c s) (name_number d (named c s)) time e v k)
    (x ∙ ap (λ k. named k t) g ∙ ap (named d) first)) h
