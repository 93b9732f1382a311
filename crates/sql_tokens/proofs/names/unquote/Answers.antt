use Rattle.std.proofs.Common.{◌≡◌, ℕ, List, [], ◌∷◌, ◌++◌, Some, None, ◌∙◌, ap}
use Rattle.std.specs.Prelude.{string_bytes}
use Rattle.std.proofs.lemmas.Str.Pattern.{split_parts, strip_prefix_char}
use Rattle.sql_tokens.specs.Words.{unquoted}
use Rattle.sql_tokens.proofs.Unquoting.{unquoted_step, unquoted_end, unquoted_whole, rest_utf8}
use Rattle.sql_tokens.proofs.names.unquote.Goals as goal

pub returns-in-None : goal.returns-in-None
returns-in-None c =
    let parts = split_parts c.args.quote c.quotes.rest.now (Some (c.in-Some.before, c.in-Some.after)) c.in-Some.ensures.cases c.requires in
    let ends = strip_prefix_char c.args.quote c.in-Some.after.now None c.in-None.ensures.cases c.requires in
    c.in_ok-push_str.ensures.bytes
    ∙ unquoted_end c.args.quote (string_bytes c.quotes.found) c.quotes.rest.now (unquoted c.args.quote c.args.text.now) c.in-Some.before.now c.in-Some.after.now c.quotes.invariant.so_far parts.0 parts.1 ends

pub quotes-preserved : goal.quotes-preserved
quotes-preserved c =
    let parts = split_parts c.args.quote c.quotes.rest.now (Some (c.in-Some.before, c.in-Some.after)) c.in-Some.ensures.cases c.requires in
    let pair = strip_prefix_char c.args.quote c.in-Some.after.now (Some c.in-Some-strip_prefix.more) c.in-Some-strip_prefix.ensures.cases c.requires in
    let pushed : string_bytes c.push.new.self ≡ (string_bytes c.quotes.found ++ c.in-Some.before.now) ++ c.args.quote ∷ [] =
    c.in_ok-push-in-Some-strip_prefix.ensures.bytes ∙ ap (λ (x : List ℕ). string_bytes c.push_str.new.self ++ x) (c.in_ok-push-in-Some-strip_prefix.ensures.ascii c.requires)
    ∙ ap (λ (x : List ℕ). x ++ c.args.quote ∷ []) c.in_ok-push_str.ensures.bytes in
    record {
      so_far = ap (λ (x : List ℕ). x ++ unquoted c.args.quote c.in-Some-strip_prefix.more.now) pushed
          ∙ unquoted_step c.args.quote (string_bytes c.quotes.found) c.quotes.rest.now (unquoted c.args.quote c.args.text.now) c.in-Some.before.now c.in-Some.after.now c.in-Some-strip_prefix.more.now c.quotes.invariant.so_far parts.0 parts.1 pair;
      utf8 = rest_utf8 c.args.quote c.in-Some.before.now c.in-Some.after.now c.in-Some-strip_prefix.more.now c.quotes.rest.now parts.0 pair c.requires c.quotes.invariant.utf8;
    }

pub returns : goal.returns
returns c =
    let free = split_parts c.args.quote c.quotes.rest.now None c.in_default.ensures.cases c.requires in
    c.in_ok-push_str-2.ensures.bytes ∙ unquoted_whole c.args.quote (string_bytes c.quotes.found) c.quotes.rest.now (unquoted c.args.quote c.args.text.now) c.quotes.invariant.so_far free
