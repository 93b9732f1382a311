use Rattle.std.proofs.Common.{Some, None, lit<, refl}
use Rattle.std.proofs.lemmas.Str.Pattern.{split_parts}
use Rattle.safebound_words.proofs.PartFacts.{split_without_equals, split_at_first_equals}
use Rattle.safebound_words.proofs.kind.split_value.Goals as goal

pub returns-in-None-clause-front : goal.returns-in-None-clause-front
returns-in-None-clause-front c =
    rw (split_without_equals c.args.word.now (split_parts 61 c.args.word.now None c.in-None.ensures.cases (lit< tt))) refl

pub returns-in-None-clause-value : goal.returns-in-None-clause-value
returns-in-None-clause-value c =
    rw (split_without_equals c.args.word.now (split_parts 61 c.args.word.now None c.in-None.ensures.cases (lit< tt))) refl

pub returns-in-Some-clause-front : goal.returns-in-Some-clause-front
returns-in-Some-clause-front c =
    let parts = split_parts 61 c.args.word.now (Some (c.in-Some.front, c.in-Some.value)) c.in-Some.ensures.cases (lit< tt) in
    rw (parts.0, split_at_first_equals c.in-Some.front.now c.in-Some.value.now parts.1) refl

pub returns-in-Some-clause-value : goal.returns-in-Some-clause-value
returns-in-Some-clause-value c =
    let parts = split_parts 61 c.args.word.now (Some (c.in-Some.front, c.in-Some.value)) c.in-Some.ensures.cases (lit< tt) in
    rw (parts.0, split_at_first_equals c.in-Some.front.now c.in-Some.value.now parts.1) refl
