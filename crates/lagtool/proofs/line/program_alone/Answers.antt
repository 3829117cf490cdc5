use Rattle.std.proofs.Common.{◌≡◌, ◌∙◌, ap, true, codes}
use Rattle.std.proofs.lemmas.Result.{IfOk-weaker}
use Rattle.clap.specs.Words.{app_of, new_app}
use Rattle.clap.specs.Simple.{app_of_fields, on_top}
use Rattle.lagtool.specs.Lines.{program_alone}
use Rattle.lagtool.proofs.line.program_alone.Goals as goal

pub returns : goal.returns
returns c = let versioned : app_of c.version.result ≡ on_top (λ s. record s { has_version = true }) (new_app (codes "lagtool")) =
    ap app_of_fields c.version.ensures ∙ ap (on_top (λ s. record s { has_version = true })) c.new.ensures.app in
    let told : app_of c.after_help.result ≡ on_top (λ s. record s { has_version = true }) (new_app (codes "lagtool")) =
    ap app_of_fields c.after_help.ensures ∙ (ap app_of_fields c.about.ensures ∙ versioned) in
    let wants : app_of c.subcommand_required.result ≡ on_top (λ s. record s { subcommand_required = true; has_version = true })
    (new_app (codes "lagtool")) =
    ap app_of_fields c.subcommand_required.ensures ∙ ap (on_top (λ s. record s { subcommand_required = true })) told in
    let top : app_of c.disable_help_subcommand.result ≡ program_alone =
    ap app_of_fields c.disable_help_subcommand.ensures ∙ ap (on_top (λ s. record s { disable_help_subcommand = true })) wants in
    IfOk-weaker c.bin_name.result _ _ (λ r h. ap app_of_fields h.0 ∙ top) c.bin_name.ensures
