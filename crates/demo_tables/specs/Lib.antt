pub mod ShopSchema
