-- The schema of the shop and the query over it.
use Rattle.std.specs.Prelude.{ℕ, List, ◌++◌, codes}

unfoldable pub schema_text : List ℕ
schema_text =
    codes "CREATE TABLE PRODUCT (ID INTEGER PRIMARY KEY, KIND INTEGER NOT NULL);\n"
    ++ codes "CREATE TABLE ITEM (ORDER_ID INTEGER NOT NULL, PRODUCT INTEGER NOT NULL);\n"
    ++ codes "CREATE TABLE ORDERS (ID INTEGER PRIMARY KEY, CUSTOMER INTEGER NOT NULL, DAYNO INTEGER NOT NULL);\n"
    ++ codes "CREATE TABLE CUSTOMER (ID INTEGER PRIMARY KEY, REGION INTEGER NOT NULL);\n"

unfoldable pub query_text : List ℕ
query_text =
    codes "SELECT C.ID, O.ID, P.ID\n"
    ++ codes "FROM PRODUCT P JOIN ITEM I ON I.PRODUCT = P.ID\n"
    ++ codes "JOIN ORDERS O ON O.ID = I.ORDER_ID\n"
    ++ codes "JOIN CUSTOMER C ON C.ID = O.CUSTOMER\n"
    ++ codes "WHERE C.REGION = 3 AND P.KIND = 0 AND O.DAYNO BETWEEN 25 AND 49\n"
