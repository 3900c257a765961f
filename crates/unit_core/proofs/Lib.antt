mod ShearLaws
