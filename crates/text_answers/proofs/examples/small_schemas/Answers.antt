use Rattle.text_answers.proofs.SmallSchemas.{whole, bad_byte, no_token, no_length, one_name_twice, may_be_null, too_long}
use Rattle.text_answers.proofs.examples.small_schemas.Goals as goal

pub returns-clause-whole : goal.returns-clause-whole
returns-clause-whole c = whole

pub returns-clause-bad_byte : goal.returns-clause-bad_byte
returns-clause-bad_byte c = bad_byte

pub returns-clause-no_token : goal.returns-clause-no_token
returns-clause-no_token c = no_token

pub returns-clause-no_length : goal.returns-clause-no_length
returns-clause-no_length c = no_length

pub returns-clause-one_name_twice : goal.returns-clause-one_name_twice
returns-clause-one_name_twice c = one_name_twice

pub returns-clause-may_be_null : goal.returns-clause-may_be_null
returns-clause-may_be_null c = may_be_null

pub returns-clause-too_long : goal.returns-clause-too_long
returns-clause-too_long c = too_long
